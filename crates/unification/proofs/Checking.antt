-- The sign at a place against the one that its class is known by.
use Rattle.std.proofs.Common.{◌≡◌, ℕ, ◌<◌, ◌≤◌, Some, None, Option as Maybe, sym, refl, ap, ap₂, ◌∙◌, subst, arith}
use Rattle.std.specs.Prelude.{MatchOption, Ok, Err, Result}
use Rattle.std.specs.Result.{result_ok}
use Rattle.rewriting.specs.Terms.{Term, letter, sign, Terms, put, puts, count}
use Rattle.rewriting.proofs.Replacing.{count_puts}
use Rattle.store.specs.declared.types.Store.{Store}
use Rattle.store.specs.declared.types.Place.{Place}
use Rattle.store.specs.declared.types.Node.{Node}
use Rattle.store.specs.declared.types.Node.TheVariants.{Letter, Sign}
use Rattle.store.specs.Stores.{Sound, Shows, term_in, part_in, parts_in}
use Rattle.store.proofs.Emitting.{count_parts}
use Rattle.unification.specs.declared.types.Classes.{Classes}
use Rattle.unification.specs.Classes.{label, IsSign, Labelled, Respects, SameClass, ClosedAt, NoneRespects, Forced, Merged, Each}
use Rattle.unification.specs.declared.types.Clash.{Clash}
use Rattle.unification.specs.Classes.{Coarser, CoarserClosed, Closure, ClosureOf, FirstDifference}
use Rattle.unification.proofs.Parts.{each_parts, parts_put}

module _ (st : Store) (c : Classes) (w : Labelled st st.count c) (i j : ℕ) (low : i < st.count) (known : j ≡ label c i) where
  -- a class with a sign is not known by a letter
  known_by_sign : (f x : ℕ) (ts : Terms) → term_in st i ≡ sign f ts → term_in st j ≡ letter x → ⊥
  known_by_sign f x ts e d =
      subst IsSign (ap (λ (z : ℕ). term_in st z) (sym known) ∙ d) (w.signs i low (subst IsSign (sym e) tt))

  signs_one : (f n g m : ℕ) → term_in st i ≡ sign f (parts_in st i n) → term_in st j ≡ sign g (parts_in st j m) → (r : ℕ → Term) →
      Respects st st.count c r → sign f (puts r (parts_in st i n)) ≡ sign g (puts r (parts_in st j m))
  signs_one f n g m is_i is_j r h =
      let a : put r (term_in st i) ≡ sign f (puts r (parts_in st i n)) = ap (put r) is_i in
      let b : put r (term_in st j) ≡ sign g (puts r (parts_in st j m)) = ap (put r) is_j in
      sym a ∙ h i low ∙ ap (λ (z : ℕ). put r (term_in st z)) (sym known) ∙ b

  -- what stands at the places is not the same
  pub clash_by : (x y : Node) → IsSign (term_in st i) → (x ≡ y → ⊥) → Shows st i x → Shows st j y → NoneRespects st st.count c
  clash_by (Letter a) y is ne si sj r h = absurd (subst IsSign si.1 is)
  clash_by (Sign f n) (Letter a) is ne si sj r h = known_by_sign f a (parts_in st i n) si.2 sj.1
  clash_by (Sign f n) (Sign g m) is ne si sj r h =
      let e = signs_one f n g m si.2 sj.2 r h in
      let same : f ≡ g = cc in
      let k : puts r (parts_in st i n) ≡ puts r (parts_in st j m) = cc in
      ne (ap₂ Sign same (sym (count_parts (λ z. term_in st z) (λ z. part_in st i z) 0 n) ∙ sym (count_puts r (parts_in st i n))
      ∙ ap count k ∙ count_puts r (parts_in st j m) ∙ count_parts (λ z. term_in st z) (λ z. part_in st j z) 0 m))

  module _ (sound : Sound st) (f n : ℕ) (si : Shows st i (Sign f n)) (sj : Shows st j (Sign f n)) where
    part_low_i : (k : ℕ) → k < n → part_in st i k < st.count
    part_low_i k l = let b = sound.shared.shape.below i k low (omega (arith, si.1)) in omega arith

    part_low_j : (k : ℕ) → k < n → part_in st j k < st.count
    part_low_j k l =
        let a = w.low i low in
        let b = sound.shared.shape.below j k (omega arith) (omega (arith, sj.1)) in omega arith

    pub forced : (k : ℕ) (p q : Place) → k < n → p.0 ≡ part_in st i k → q.0 ≡ part_in st j k →
        (label c (part_in st i k) ≡ label c (part_in st j k) → ⊥) → Forced st c p q
    forced k p q l a b no1 = record {
      first = let h = part_low_i k l in omega arith;
      second = let h = part_low_j k l in omega arith;
      differ = λ e. no1 (ap (label c) (sym a) ∙ e ∙ ap (label c) b);
      become = λ r h.
          let e = signs_one f n f n si.2 sj.2 r h in
          let z : puts r (parts_in st i n) ≡ puts r (parts_in st j n) = cc in
          ap (λ (y : ℕ). put r (term_in st y)) a
          ∙ parts_put (λ y. term_in st y) (λ y. term_in st y) (λ y. part_in st i y) (λ y. part_in st j y) r 0 n z k
          (omega arith) (omega arith)
          ∙ ap (λ (y : ℕ). put r (term_in st y)) (sym b);
    }

    pub closed_by : ((k : ℕ) → k < n → label c (part_in st i k) ≡ label c (part_in st j k)) → ClosedAt st st.count c i
    closed_by h f1 ts e =
        let z : sign f (parts_in st i n) ≡ sign f1 ts = sym si.2 ∙ e in
        let y : parts_in st i n ≡ ts = cc in
        let x : f ≡ f1 = cc in (
          parts_in st j n,
          ap (λ (k : ℕ). term_in st k) (sym known) ∙ sj.2 ∙ ap (λ (g : ℕ). sign g (parts_in st j n)) x,
          subst (λ (us : Terms). Each (SameClass st st.count c) us (parts_in st j n)) y
              (each_parts (λ k. term_in st k) (λ k. term_in st k) (λ k. part_in st i k) (λ k. part_in st j k)
              (SameClass st st.count c) 0 n (λ k a b. record {
                i = part_in st i k;
                j = part_in st j k;
                low_i = part_low_i k (omega arith);
                low_j = part_low_j k (omega arith);
                is_i = refl;
                is_j = refl;
                one = h k (omega arith);
              })),
        )

-- what `find` gives of the parts' numbers
pub difference_or_none : (st : Store) (c : Classes) (i j n : ℕ) (r : Maybe ℕ) →
    MatchOption r ((k : ℕ) → 0 ≤ k → k < n → label c (part_in st i k) ≡ label c (part_in st j k))
    (λ k. (0 ≤ k) × (k < n) × (label c (part_in st i k) ≡ label c (part_in st j k) → ⊥)
    × ((l : ℕ) → 0 ≤ l → l < k → label c (part_in st i l) ≡ label c (part_in st j l))) → FirstDifference st c i j n r
difference_or_none st c i j n None h = λ k l. h k (omega arith) l
difference_or_none st c i j n (Some k) h = record { low = h.1; differ = h.2 }

-- one pair more, in a store that is as it was
pub coarser_more : (st su : Store) (c d e : Classes) (p q : Place) → su ≡ st → Coarser st c d → Forced su d p q →
    Merged su d p.0 q.0 e → Coarser st c e
coarser_more st su c d e p q s w o m =
    let x = subst (λ (z : Store). Forced z d p q) s o in
    let y = subst (λ (z : Store). Merged z d p.0 q.0 e) s m in
    record {
      labelled = y.labelled;
      coarser = λ k l a b z. y.coarser k l a b (w.coarser k l a b z);
      respects = λ r h. y.respects r (w.respects r h) (x.become r (w.respects r h));
    }

pub none_before : (st su : Store) (c d : Classes) → su ≡ st → Coarser st c d → NoneRespects su su.count d → NoneRespects st st.count c
none_before st su c d s w n r h = subst (λ (z : Store). NoneRespects z z.count d) s n r (w.respects r h)

-- every place for itself, then two in one class
respects_apart : (st : Store) (c : Classes) → st.count ≤ 96 → ((i : ℕ) → i < 96 → label c i ≡ i) → (r : ℕ → Term) →
    Respects st st.count c r
respects_apart st c few h r i l = ap (λ (z : ℕ). put r (term_in st z)) (sym (h i (omega arith)))

module _ (st : Store) (p q : Place) (c d : Classes) (few : st.count ≤ 96) (h : (i : ℕ) → i < 96 → label c i ≡ i)
    (m : Merged st c p.0 q.0 d) where
  pub closure_by : (e : Classes) → p.0 < st.count → q.0 < st.count → CoarserClosed st d e → Closure st p q e
  closure_by e k l w = record {
    labelled = w.merged.labelled;
    together = w.merged.coarser p.0 q.0 k l m.one;
    respects = λ r z. w.merged.respects r (m.respects r (respects_apart st c few h r) z);
    closed = w.closed;
  }

  pub no_closure : NoneRespects st st.count d → (r : ℕ → Term) → put r (term_in st p.0) ≡ put r (term_in st q.0) → ⊥
  no_closure n r z = n r (m.respects r (respects_apart st c few h r) z)

-- the closure that there is
pub closure_ok : (st : Store) (p q : Place) (r : Result Classes Clash) (c : Classes) → ClosureOf st p q r → Some c ≡ result_ok r →
    Closure st p q c
closure_ok st p q (Ok d) c h e = let z : d ≡ c = cc in subst (Closure st p q) z h
closure_ok st p q (Err x) c h e = absurd (cc)
