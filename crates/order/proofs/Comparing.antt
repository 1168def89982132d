-- Terms that are the same, and the first that differ.
use Rattle.std.proofs.Common.{◌≡◌, ℕ, Bool, true, false, List, [], ◌++◌, Some, None, Option as Maybe, Decides, MatchOption, not}
use Rattle.std.proofs.Common.{sym, ap, ◌∙◌, refl, subst, subst₂, inl, inr, arith}
use Rattle.std.specs.Option.{option_eq}
use borrow.Author.Tests.{clash}
use denote.Ref.{Bor}
use Rattle.rewriting.specs.Terms.{Term, Terms, and1, Fits, SmallLetter}
use Rattle.rewriting.specs.Order.{Rank, Greater, Grounded, grounded, FirstGreater, further}
use Rattle.rewriting.specs.Answers.{Tells}
use Rattle.rewriting.proofs.Grounding.{order_ends_lem}
use Rattle.rewriting.proofs.Signature.{over_fits}
use Rattle.books.specs.Rows.{row}
use Rattle.order.specs.declared.terms.Comparison.{Comparison}
use Rattle.order.specs.declared.terms.Parts.{Parts}
use Rattle.order.specs.Comparing.{by, OnLeft, OnRight, AllOnLeft, AllOnRight, Split, Splits, Equates, Compares, SameFirst, Skips, DifferAt}
use Rattle.order.proofs.Telling.{tells_through, first_none, first_none_right, first_cases, first_here}
use Rattle.books.proofs.Unique.{row_once}

-- the same words are the same term
module _ (p : Comparison) (k j : ℕ) {E : List ℕ → List ℕ → Bool}
    (tests : (v w : List ℕ) (r : Bool) → r ≡ E v w → Decides r (v ≡ w)) where
  pub same_words : (v w : Maybe (Bor (List ℕ))) →
      MatchOption v ((t : Term) → OnLeft p k t → ⊥) (λ v. (t : Term) → OnLeft p k t → v.now ≡ row t) →
      MatchOption w ((u : Term) → OnRight p j u → ⊥) (λ w. (u : Term) → OnRight p j u → w.now ≡ row u) →
      (r : Bool) → r ≡ option_eq (λ v w. E v.now w.now) v w → Equates p k j r
  same_words None w h g r e t u s z = absurd (h t s)
  same_words (Some v) None h g r e t u s z = absurd (g u z)
  same_words (Some v) (Some w) h g r e t u s z = record {
    holds = λ y. row_once p.parts.now t u [] [] s.over z.over
        (ap (λ (x : List ℕ). x ++ []) (sym (h t s) ∙ ((tests v.now w.now r e).0 y ∙ g u z)));
    fails = λ y d. absurd (clash (sym y ∙ (tests v.now w.now r e).1 (h t s ∙ (ap row d ∙ sym (g u z)))));
  }

not_not : (x : Bool) → not (not x) ≡ x
not_not true = refl
not_not false = refl

-- the same exactly if their words don't differ
module _ (p : Comparison) (k j : ℕ) (v w : List ℕ) (left : (t : Term) → OnLeft p k t → v ≡ row t)
    (right : (u : Term) → OnRight p j u → w ≡ row u) (x : Bool) (tests : (r : Bool) → r ≡ x → Decides r (v ≡ w)) where
  pub differ_words : (r : Bool) → r ≡ not x → Equates p k j (not r)
  differ_words r e t u s z =
      let d = tests (not r) (ap not e ∙ not_not x) in record {
        holds = λ y. row_once p.parts.now t u [] [] s.over z.over
            (ap (λ (x : List ℕ). x ++ []) (sym (left t s) ∙ (d.0 y ∙ right u z)));
        fails = λ y e. absurd (clash (sym y ∙ d.1 (left t s ∙ (ap row e ∙ sym (right u z)))));
      }

-- no term is greater than itself
not_itself : (rk : Rank) (ps : List ℕ) {t : Term} → Grounded rk ps t → Fits ps t → Greater rk t t → ⊥
not_itself rk ps (grounded {t = t} h) f g = not_itself rk ps (h t f g) f g

module _ (p : Comparison) (m n a b : Parts) (skips : Skips p m n a b) where
  -- there are no more terms on a side
  pub skips_end_left : Splits p.parts.now p.left.now a None → DifferAt p m n None
  skips_end_left none ts us s v o =
      let q = skips.2 ts us s v in
      first_none (subst (λ (vs : Terms). FirstGreater (by p) vs q.ws) (none q.vs q.left) (q.to o))

  pub skips_end_right : Splits p.parts.now p.right.now b None → DifferAt p m n None
  skips_end_right none ts us s v o =
      let q = skips.2 ts us s v in
      first_none_right (subst (FirstGreater (by p) q.vs) (none q.ws q.right) (q.to o))

  module _ (c d : Parts) (more_left : Splits p.parts.now p.left.now a (Some c))
      (more_right : Splits p.parts.now p.right.now b (Some d)) where
    -- terms that differ are found
    pub skips_differ : Equates p a.start b.start false → DifferAt p m n (Some (a.start, b.start))
    skips_differ differ = (skips.0, skips.1, found)
      where
        found : (r : Bool) → Compares p a.start b.start r → (ts us : Terms) → AllOnLeft p m ts → AllOnRight p n us →
            Tells r (FirstGreater (by p) ts us)
        found r told ts us s v =
            let q = skips.2 ts us s v in
            let x = more_left.2 q.vs q.left in
            let y = more_right.2 q.ws q.right in
            tells_through q.from q.to
            (subst₂ (λ (vs ws : Terms). Tells r (FirstGreater (by p) vs ws)) (sym x.both) (sym y.both)
            (first_here ((differ x.first y.first x.there y.there).fails refl) (told x.first y.first x.there y.there)))

    -- terms that are the same are skipped
    module _ (same : Equates p a.start b.start true) where
      module _ (vs ws : Terms) (x : Split p.parts.now p.left.now a c vs) (y : Split p.parts.now p.right.now b d ws) where
        is : x.first ≡ y.first
        is = (same x.first y.first x.there y.there).holds refl

        on : FirstGreater (by p) x.others y.others → FirstGreater (by p) vs ws
        on o = subst₂ (FirstGreater (by p)) (sym x.both) (sym y.both)
            (subst (λ (u : Term). FirstGreater (by p) (and1 x.first x.others) (and1 u y.others)) is (further o))

        never : Greater (by p) x.first x.first → ⊥
        never = let f = over_fits p.parts.now SmallLetter x.first x.there.over in
            not_itself (by p) p.parts.now (order_ends_lem (by p) p.parts.now x.first f) f

        off : FirstGreater (by p) vs ws → FirstGreater (by p) x.others y.others
        off o = elim (first_cases (subst₂ (FirstGreater (by p)) x.both y.both o)) [
          | inl g ↦ absurd (never (subst (Greater (by p) x.first) (sym is) g))
          | inr h ↦ h.1
        ]

      pub skips_next : Skips p m n c d
      skips_next = (omega (arith, skips.0, more_left.0), omega (arith, skips.1, more_right.0), next)
        where
          next : (ts us : Terms) → AllOnLeft p m ts → AllOnRight p n us → SameFirst p c d ts us
          next ts us s v =
              let q = skips.2 ts us s v in
              let x = more_left.2 q.vs q.left in
              let y = more_right.2 q.ws q.right in
              record {
                vs = x.others;
                ws = y.others;
                left = x.behind;
                right = y.behind;
                to = λ o. off q.vs q.ws x y (q.to o);
                from = λ o. q.from (on q.vs q.ws x y o);
              }
