-- The parts in which two terms of the store differ.
use Rattle.std.proofs.Common.{◌≡◌, ℕ, zero, suc, None, Some, Option, Bool, true, false, not, ◌+◌, ◌<◌, ◌≤◌, sym, refl, ap}
use Rattle.std.proofs.Common.{◌∙◌, subst, ap₂, subst₂, inl, inr, ⊎_elim, eq-or-lt_of_le, arith}
use borrow.Author.Tests.{clash}
use Rattle.std.specs.Bool.{then_some}
use Rattle.std.specs.Option.{is_some}
use Rattle.rewriting.specs.Terms.{Term, sign, Terms, count}
use Rattle.store.specs.declared.types.Store.{Store}
use Rattle.store.specs.declared.types.Place.{Place}
use Rattle.store.specs.declared.types.Node.{Node}
use Rattle.store.specs.declared.types.Node.TheVariants.{Letter, Sign}
use Rattle.store.specs.Slots.{parts_by}
use Rattle.store.specs.Stores.{Shows, term_in, arity_in, part_in, parts_in}
use Rattle.store.proofs.Sounds.{sound_in}
use Rattle.store.proofs.Cases.{le_or_lt}
use Rattle.store.proofs.Decoding.{parts_by_same}
use Rattle.store.proofs.Emitting.{count_parts}
use Rattle.store.proofs.Telling.{one_place}
use Rattle.ways.specs.Steps.{DifferAt, differ_first, differ_later, DifferIn, FirstDifference, OnlyDifference}
use Rattle.ways.proofs.Onestep.{differ_inv, differ_here, differ_there, differ_not}

differ_count : {v w : Term} {ts us : Terms} → DifferAt v w ts us → count ts ≡ count us
differ_count (differ_first n) = refl
differ_count (differ_later d) = ap (λ (n : ℕ). 1 + n) (differ_count d)

-- lists of parts from k on
module _ (d : ℕ → Term) (a b : ℕ → ℕ) where
  same_from : (k n : ℕ) → ((j : ℕ) → k ≤ j → j < k + n → a j ≡ b j) → parts_by d a k n ≡ parts_by d b k n
  same_from k n h = parts_by_same d d a b k n (λ j l m. ap d (h j l m))

  tells_from : (k n : ℕ) → parts_by d a k n ≡ parts_by d b k n → (j : ℕ) → k ≤ j → j < k + n → d (a j) ≡ d (b j)
  tells_from k zero e j l h = absurd (omega arith)
  tells_from k (suc n) e j l h =
      let x : d (a k) ≡ d (b k) = cc in
      let y : parts_by d a (k + 1) n ≡ parts_by d b (k + 1) n = cc in
      ⊎_elim (λ z. subst (λ (i : ℕ). d (a i) ≡ d (b i)) z x) (λ z. tells_from (k + 1) n y j (omega arith) (omega arith)) (eq-or-lt_of_le l)

  -- all the same but part i
  differ_from : (k n i : ℕ) → k ≤ i → i < k + n → (d (a i) ≡ d (b i) → ⊥) →
      ((j : ℕ) → k ≤ j → j < k + n → (j ≡ i → ⊥) → a j ≡ b j) → DifferAt (d (a i)) (d (b i)) (parts_by d a k n) (parts_by d b k n)
  differ_from k zero i l h ne same = absurd (omega arith)
  differ_from k (suc n) i l h ne same = ⊎_elim
      (λ z. differ_here (d (a i)) (d (b i)) (d (a k)) (d (b k)) _ _ (ap (λ (j : ℕ). d (a j)) z) (ap (λ (j : ℕ). d (b j)) z)
      (same_from (k + 1) n (λ j x y. same j (omega arith) (omega arith) (λ e. omega arith))) ne)
      (λ z. differ_there (d (a i)) (d (b i)) (d (a k)) (d (b k)) _ _ (ap d (same k (omega arith) (omega arith) (λ e. omega arith)))
      (differ_from (k + 1) n i (omega arith) (omega arith) ne (λ j x y. same j (omega arith) (omega arith))))
      (eq-or-lt_of_le l)

  -- parts i and j differ
  not_twice : (k n i j : ℕ) → k ≤ i → i < j → j < k + n → (d (a i) ≡ d (b i) → ⊥) → (d (a j) ≡ d (b j) → ⊥) → (v w : Term) →
      DifferAt v w (parts_by d a k n) (parts_by d b k n) → ⊥
  not_twice k zero i j l m h x y v w c = omega arith
  not_twice k (suc n) i j l m h x y v w c = elim (differ_inv c) [
    | inl e ↦ y (tells_from (k + 1) n e.2 j (omega arith) (omega arith))
    | inr e ↦ ⊎_elim (λ z. x (subst (λ (o : ℕ). d (a o) ≡ d (b o)) z e.0))
        (λ z. not_twice (k + 1) n i j (omega arith) m (omega arith) x y v w e.1) (eq-or-lt_of_le l)
  ]

-- what stands at the places is not the same
pub other_nodes : (st : Store) (p q : Place) (x y : Node) → (x ≡ y → ⊥) → Shows st p.0 x → Shows st q.0 y → OnlyDifference st p q None
other_nodes st p q (Letter a) y ne sp sq h ts us v w e g d = let a = sp.1 in absurd (cc)
other_nodes st p q (Sign f n) (Letter b) ne sp sq h ts us v w e g d = let a = sq.1 in absurd (cc)
other_nodes st p q (Sign f n) (Sign g m) ne sp sq h ts us v w e k d =
    let i = sp.2 in
    let j = sq.2 in
    let a : parts_in st p.0 n ≡ ts = cc in
    let b : parts_in st q.0 m ≡ us = cc in
    let same : f ≡ g = cc in
    let cp = count_parts (λ j. term_in st j) (λ k. part_in st p.0 k) 0 n in
    let cq = count_parts (λ j. term_in st j) (λ k. part_in st q.0 k) 0 m in
    ne (ap₂ Sign same (sym cp ∙ (ap count a ∙ (differ_count d ∙ (ap count (sym b) ∙ cq)))))

module _ (st : Store) (p q : Place) (lp : p.0 < st.count) (lq : q.0 < st.count) (f n : ℕ)
    (shows-p : Shows st p.0 (Sign f n)) (shows-q : Shows st q.0 (Sign f n)) where
  part_low : (i : ℕ) → i < st.count → (k : ℕ) → k < arity_in st i → part_in st i k < st.count
  part_low i l k h = let m = (sound_in st).shared.shape.below i k l h in omega arith

  -- different places have different terms
  apart : (k : ℕ) → k < n → (part_in st p.0 k ≡ part_in st q.0 k → ⊥) →
      term_in st (part_in st p.0 k) ≡ term_in st (part_in st q.0 k) → ⊥
  apart k l ne e = ne (one_place st.words.now st.count _ _ (sound_in st).shared (part_low p.0 lp k (omega (arith, shows-p.1)))
      (part_low q.0 lq k (omega (arith, shows-q.1))) e)

  parts_are : (h : ℕ) (ts us : Terms) (v w : Term) → term_in st p.0 ≡ sign h ts → term_in st q.0 ≡ sign h us → DifferAt v w ts us →
      DifferAt v w (parts_in st p.0 n) (parts_in st q.0 n)
  parts_are h ts us v w x y c =
      let d = shows-p.2 in let e = shows-q.2 in
      let a : ts ≡ parts_in st p.0 n = cc in let b : us ≡ parts_in st q.0 n = cc in
      subst₂ (DifferAt v w) a b c

  pub no_difference : ((j : ℕ) → 0 ≤ j → j < n → part_in st p.0 j ≡ part_in st q.0 j) → (h : ℕ) (ts us : Terms) (v w : Term) →
      term_in st p.0 ≡ sign h ts → term_in st q.0 ≡ sign h us → DifferAt v w ts us → ⊥
  no_difference same h ts us v w x y c = differ_not (parts_are h ts us v w x y c)
      (same_from (λ j. term_in st j) (λ k. part_in st p.0 k) (λ k. part_in st q.0 k) 0 n (λ j l m. same j l (omega arith)))

  two_differences : (k j : ℕ) → k + 1 ≤ j → j < n → (part_in st p.0 k ≡ part_in st q.0 k → ⊥) →
      (part_in st p.0 j ≡ part_in st q.0 j → ⊥) → (h : ℕ) (ts us : Terms) (v w : Term) →
      term_in st p.0 ≡ sign h ts → term_in st q.0 ≡ sign h us → DifferAt v w ts us → ⊥
  two_differences k j l m nk nj h ts us v w x y c =
      not_twice (λ j. term_in st j) (λ k. part_in st p.0 k) (λ k. part_in st q.0 k) 0 n k j (omega arith) (omega arith) (omega arith)
      (apart k (omega arith) nk) (apart j m nj) v w (parts_are h ts us v w x y c)

  one_difference : (k : ℕ) → k < n → (part_in st p.0 k ≡ part_in st q.0 k → ⊥) →
      ((j : ℕ) → 0 ≤ j → j < k → part_in st p.0 j ≡ part_in st q.0 j) →
      ((j : ℕ) → k + 1 ≤ j → j < n → part_in st p.0 j ≡ part_in st q.0 j) → DifferIn st p q k
  one_difference k l ne before after = record {
    symbol = f;
    left_parts = parts_in st p.0 n;
    right_parts = parts_in st q.0 n;
    left = shows-p.2;
    right = shows-q.2;
    left_inside = omega (arith, shows-p.1);
    right_inside = omega (arith, shows-q.1);
    differ = differ_from (λ j. term_in st j) (λ k. part_in st p.0 k) (λ k. part_in st q.0 k) 0 n k (omega arith) (omega arith)
        (apart k l ne) (λ j x y z. same j (omega arith) z);
  }
    where
      same : (j : ℕ) → j < n → (j ≡ k → ⊥) → part_in st p.0 j ≡ part_in st q.0 j
      same j m z = ⊎_elim (λ e. ⊎_elim (λ x. absurd (z x)) (λ x. before j (omega arith) x) (eq-or-lt_of_le e))
          (λ e. after j (omega arith) m) (le_or_lt j k)

  -- part k is the first that differs: it is the only one, unless a later one differs too
  pub first_or_only : (k : ℕ) → k < n → (part_in st p.0 k ≡ part_in st q.0 k → ⊥) →
      ((j : ℕ) → 0 ≤ j → j < k → part_in st p.0 j ≡ part_in st q.0 j) → (later : Option ℕ) (none_later : Bool) →
      FirstDifference st p q n (k + 1) later → is_some later ≡ not none_later → (x : Option ℕ) → x ≡ then_some none_later k →
      OnlyDifference st p q x
  first_or_only k l ne before None true h e x is = subst (OnlyDifference st p q) (sym is) (one_difference k l ne before h)
  first_or_only k l ne before None false h e x is = absurd (clash e)
  first_or_only k l ne before (Some j) true h e x is = absurd (clash (sym e))
  first_or_only k l ne before (Some j) false h e x is =
      subst (OnlyDifference st p q) (sym is) (two_differences k j h.0 h.1 ne h.2)
