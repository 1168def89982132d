-- The order's cases, where the terms stand.
use Rattle.std.proofs.Common.{◌≡◌, ℕ, Bool, true, false, Some, None, sym, refl, ap, subst, subst₂, inl, inr, arith}
use Rattle.rewriting.specs.Terms.{Term, letter, sign, Terms}
use Rattle.rewriting.specs.Order.{Greater, by_part, SomeAtLeast, this_more, none_there, AllLess, FirstGreater}
use Rattle.rewriting.specs.Answers.{Tells}
use Rattle.order.specs.declared.terms.Comparison.{Comparison}
use Rattle.order.specs.declared.terms.Parts.{Parts}
use Rattle.order.specs.declared.terms.Head.{Head}
use Rattle.order.specs.Comparing.{by, OnLeft, AllOnLeft, AllOnRight, Headed, Splits, Equates, Compares, Covers, Exceeds}
use Rattle.order.specs.Comparing.{Before, Precedes}
use Rattle.order.proofs.Telling.{tells_yes, tells_through, some_none, some_is, some_later, all_not, all_later}
use Rattle.order.proofs.Telling.{greater_letter, greater_than_letter, greater_not_before, greater_before}

-- each of some terms on the right
module _ (p : Comparison) (k : ℕ) (b : Parts) where
  pub exceeds_none : Splits p.parts.now p.right.now b None → Exceeds p k b true
  exceeds_none none t us s v = subst (λ (ws : Terms). Tells true (AllLess (by p) t ws)) (sym (none us v)) (tells_yes none_there)

  module _ (d : Parts) (more : Splits p.parts.now p.right.now b (Some d)) where
    pub exceeds_not : Compares p k b.start false → Exceeds p k b false
    exceeds_not h t us s v =
        let x = more.2 us v in
        subst (λ (ws : Terms). Tells false (AllLess (by p) t ws)) (sym x.both) (all_not ((h t x.first s x.there).fails refl))

    pub exceeds_next : (r : Bool) → Compares p k b.start true → Exceeds p k d r → Exceeds p k b r
    exceeds_next r h rest t us s v =
        let x = more.2 us v in
        subst (λ (ws : Terms). Tells r (AllLess (by p) t ws)) (sym x.both)
        (all_later ((h t x.first s x.there).holds refl) (rest t x.others s x.behind))

-- one of some terms on the left
module _ (p : Comparison) (a : Parts) (j : ℕ) where
  pub covers_none : Splits p.parts.now p.left.now a None → Covers p a j false
  covers_none none ts u s v = subst (λ (vs : Terms). Tells false (SomeAtLeast (by p) vs u)) (sym (none ts s)) some_none

  module _ (c : Parts) (more : Splits p.parts.now p.left.now a (Some c)) where
    pub covers_same : Equates p a.start j true → Covers p a j true
    covers_same h ts u s v =
        let x = more.2 ts s in
        subst (λ (vs : Terms). Tells true (SomeAtLeast (by p) vs u)) (sym x.both) (some_is ((h x.first u x.there v).holds refl))

    pub covers_greater : Compares p a.start j true → Covers p a j true
    covers_greater h ts u s v =
        let x = more.2 ts s in
        subst (λ (vs : Terms). Tells true (SomeAtLeast (by p) vs u)) (sym x.both)
        (tells_yes (this_more ((h x.first u x.there v).holds refl)))

    pub covers_next : (r : Bool) → Equates p a.start j false → Compares p a.start j false → Covers p c j r → Covers p a j r
    covers_next r same h rest ts u s v =
        let x = more.2 ts s in
        subst (λ (vs : Terms). Tells r (SomeAtLeast (by p) vs u)) (sym x.both)
        (some_later ((same x.first u x.there v).fails refl) ((h x.first u x.there v).fails refl) (rest x.others u x.behind v))

-- the same sign comes before by its parts alone
pub precedes_same : (p : Comparison) (f g : Head) (r : Bool) → f.sign ≡ g.sign →
    ((ts us : Terms) → AllOnLeft p f.parts ts → AllOnRight p g.parts us → Tells r (FirstGreater (by p) ts us)) → Precedes p f g r
precedes_same p f g r e h ts us s v = tells_through (λ o. inr (e, o)) back (h ts us s v)
  where
    back : Before (by p) f.sign g.sign ts us → FirstGreater (by p) ts us
    back (inl l) = absurd (omega (arith, l, ap (by p) e))
    back (inr o) = o.1

module _ (p : Comparison) (k j : ℕ) where
  pub compares_letter : Headed p.parts.now p.left.now k None → Compares p k j false
  compares_letter h t u s v = let q = h t s in subst (λ (w : Term). Tells false (Greater (by p) w u)) (sym q.1) greater_letter

  module _ (f : Head) (hk : Headed p.parts.now p.left.now k (Some f)) where
    pub compares_part : Covers p f.parts j true → Compares p k j true
    compares_part h t u s v =
        let q = hk.3 t s in
        subst (λ (w : Term). Tells true (Greater (by p) w u)) (sym q.1) (tells_yes (by_part ((h q.0 u q.2 v).holds refl)))

    module _ (none : Covers p f.parts j false) where
      pub compares_over_letter : Headed p.parts.now p.right.now j None → Compares p k j false
      compares_over_letter h t u s v =
          let q = hk.3 t s in
          let (x, e) = h u v in
          let least : SomeAtLeast (by p) q.0 (letter x) → ⊥ =
          subst (λ (w : Term). SomeAtLeast (by p) q.0 w → ⊥) e ((none q.0 u q.2 v).fails refl) in
          subst₂ (λ (w x : Term). Tells false (Greater (by p) w x)) (sym q.1) (sym e) (greater_than_letter least)

      module _ (g : Head) (hj : Headed p.parts.now p.right.now j (Some g)) where
        -- both terms by their parts
        both : (r : Bool) → ((ts us : Terms) → OnLeft p k (sign f.sign ts) → AllOnLeft p f.parts ts → AllOnRight p g.parts us →
            (SomeAtLeast (by p) ts (sign g.sign us) → ⊥) → Tells r (Greater (by p) (sign f.sign ts) (sign g.sign us))) → Compares p k j r
        both r h t u s v =
            let (ts, e, st) = hk.3 t s in
            let (us, d, su) = hj.3 u v in
            let least : SomeAtLeast (by p) ts (sign g.sign us) → ⊥ =
            subst (λ (w : Term). SomeAtLeast (by p) ts w → ⊥) d ((none ts u st v).fails refl) in
            subst₂ (λ (w x : Term). Tells r (Greater (by p) w x)) (sym e) (sym d) (h ts us (subst (OnLeft p k) e s) st su least)

        pub compares_not_before : Precedes p f g false → Compares p k j false
        compares_not_before h = both false λ ts us s st su least. greater_not_before least ((h ts us st su).fails refl)

        pub compares_before : (r : Bool) → Precedes p f g true → Exceeds p k g.parts r → Compares p k j r
        compares_before r h all = both r λ ts us s st su least.
            greater_before least ((h ts us st su).holds refl) (all (sign f.sign ts) us s su)
