-- A table stays truthful.
use Rattle.std.proofs.Common.{◌≡◌, ℕ, ◌<◌, ◌≤◌, Bool, ◌⊎◌, List, [], length, get_or, set, replicate, Some, None, Option as Maybe, sym, ap}
use Rattle.std.proofs.Common.{◌∙◌, inl, inr, arith}
use native.Mathlib.Decide.{ℕ_discrete, dec_lt}
use Rattle.std.proofs.lemmas.List.{get_or-set_same, get_or-set_other, get_or-replicate, set_past}
use Rattle.order.specs.declared.terms.Comparison.{Comparison}
use Rattle.order.specs.declared.table.Table.{Table}
use Rattle.order.specs.Tables.{Celled, cell, Noted}
use Rattle.order.specs.Comparing.{Compares, Truthful}

none_some : {b : Bool} → ◌≡◌ {A = Maybe Bool} None (Some b) → ⊥
none_some e = let z : ◌≡◌ {A = ℕ} 0 1 = cc in omega arith

-- a new table has no answers
pub none_in_new : (tb : Table) → tb.answers ≡ replicate 64 (replicate 64 None) → (k j : ℕ) (b : Bool) →
    Celled k j → cell tb k j ≡ Some b → ⊥
none_in_new tb e k j b h is = none_some (sym fresh ∙ is)
  where
    line : get_or tb.answers k [] ≡ replicate 64 None
    line = ap (λ (v : List (List (Maybe Bool))). get_or v k []) e ∙ get_or-replicate 64 k (replicate 64 None) [] h.0

    fresh : cell tb k j ≡ None
    fresh = ap (λ (v : List (Maybe Bool)). get_or v j None) line ∙ get_or-replicate 64 j None None h.1

-- what is read after a write: what was written, or what was there
abbrev AfterWrite : {A : Type 0} → List A → ℕ → ℕ → A → A → Type 0
AfterWrite xs i n x d = ((n ≡ i) × (get_or (set xs i x) n d ≡ x)) ⊎ (get_or (set xs i x) n d ≡ get_or xs n d)

after_write : {A : Type 0} (xs : List A) (i n : ℕ) (x d : A) → AfterWrite xs i n x d
after_write {A} xs i n x d = aux (ℕ_discrete n i) (dec_lt i (length xs))
  where
    aux : Dec (n ≡ i) → Dec (i < length xs) → AfterWrite xs i n x d
    aux (no other) low = inr (get_or-set_other xs i n x d other)
    aux (yes q) (yes low) = inl (q, ap (λ (m : ℕ). get_or (set xs i x) m d) q ∙ get_or-set_same xs i x d low)
    aux (yes q) (no high) =
        let past : length xs ≤ i = omega arith in
        inr (ap (λ (v : List A). get_or v n d) (set_past xs i x past))

module _ (p : Comparison) (tb new : Table) (k j : ℕ) (b : Bool) (told : Compares p k j b) (truth : Truthful p tb) where
  abbrev was : List (Maybe Bool)
  was = get_or tb.answers k []

  abbrev row : List (Maybe Bool)
  row = set (get_or tb.answers k []) j (Some b)

  at_cell : new.answers ≡ set tb.answers k (set (get_or tb.answers k []) j (Some b)) → Truthful p new
  at_cell e m n d g is = by_row (after_write tb.answers k m row [])
    where
      put : get_or (get_or (set tb.answers k row) m []) n None ≡ Some d
      put = ap (λ (v : List (List (Maybe Bool))). get_or (get_or v m []) n None) (sym e) ∙ is

      by_cell : m ≡ k → get_or row n None ≡ Some d → AfterWrite was j n (Some b) None → Compares p m n d
      by_cell q o (inl (r, w)) = let same : b ≡ d = cc in rw (q, r, ← same) told
      by_cell q o (inr w) = truth m n d g (ap (λ (i : ℕ). get_or (get_or tb.answers i []) n None) q ∙ (sym w ∙ o))

      by_row : AfterWrite tb.answers k m row [] → Compares p m n d
      by_row (inl (q, o)) = by_cell q (ap (λ (v : List (Maybe Bool)). get_or v n None) (sym o) ∙ put) (after_write was j n (Some b) None)
      by_row (inr o) = truth m n d g (ap (λ (v : List (Maybe Bool)). get_or v n None) (sym o) ∙ put)

  pub truthful_noted : Noted tb k j b new → Truthful p new
  truthful_noted (inl (h, e)) = at_cell e
  truthful_noted (inr (h, e)) = λ m n d g is.
      truth m n d g (ap (λ (v : List (List (Maybe Bool))). get_or (get_or v m []) n None) (sym e) ∙ is)
