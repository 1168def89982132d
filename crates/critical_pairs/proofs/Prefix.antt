-- What stands before an overlap in the list: it has lower numbers, so the list is gone through by going through the numbers.
use Rattle.std.proofs.Common.{◌≡◌, ◌⊎◌, ℕ, ◌<◌, List, [], ◌∷◌, ◌++◌, refl, ap, subst}
use Rattle.rewriting.specs.Rules.{Eq}
use Rattle.rewriting.proofs.Members.{first, mem_left, mem_right}
use Rattle.critical_pairs.specs.OverlapList.{Overlap, symbol, overlaps, Listed, this_one, later_one, Before, Sorted, Resolved}
use Rattle.critical_pairs.proofs.OverlapList.{listed_if_mem, mem_if_listed}
use Rattle.critical_pairs.proofs.Sorted.{overlaps_sorted}

-- a list is cut at any one of its members
pub split_at : {o : Overlap} {os : List Overlap} → Listed o os →
    (before : List Overlap) × (behind : List Overlap) × (os ≡ before ++ (o ∷ behind))
split_at (this_one {os = os}) = ([], os, refl)
split_at (later_one {p = p} m) = let (before, behind, e) = split_at m in (p ∷ before, behind, ap (λ (ps : List Overlap). p ∷ ps) e)

-- what comes before it in a list in order has lower numbers
pub before_is_before : (o p : Overlap) (before behind : List Overlap) → Sorted (before ++ (o ∷ behind)) → Listed p before → Before p o
before_is_before o p before behind h (this_one {os = os}) = h.0 o (listed_if_mem (mem_right os first))
before_is_before o p before behind h (later_one {os = os} m) = before_is_before o p os behind h.1 m

-- as Before, with the numbers of the later one
abbrev pub BeforeNumbers : Overlap → ℕ → ℕ → ℕ → Type 0
BeforeNumbers p i j k = (p.i < i) ⊎ ((p.i ≡ i) × ((p.j < j) ⊎ ((p.j ≡ j) × (symbol p < k))))

-- so if all with lower numbers than i, j and k are resolved, then all are that come before the one with these numbers
pub resolved_before : (rs : List Eq) (i j k : ℕ) →
    ((p : Overlap) → Listed p (overlaps rs) → BeforeNumbers p i j k → Resolved rs p) →
    (o : Overlap) → Listed o (overlaps rs) → o.i ≡ i → o.j ≡ j → symbol o ≡ k →
    (before : List Overlap) × (behind : List Overlap) × (overlaps rs ≡ before ++ (o ∷ behind))
    × ((p : Overlap) → Listed p before → Resolved rs p)
resolved_before rs i j k resolved o m is_i is_j is_k = let (before, behind, e) = split_at m in (
  before,
  behind,
  e,
  λ p l. resolved p (rw e (listed_if_mem (mem_left (o ∷ behind) (mem_if_listed l))))
      (lower p (before_is_before o p before behind (subst Sorted e (overlaps_sorted rs)) l)),
)
  where
    lower : (p : Overlap) → Before p o → BeforeNumbers p i j k
    lower p h = rw (← is_i, ← is_j, ← is_k) h
