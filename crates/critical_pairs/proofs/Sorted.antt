-- The list of overlaps is in order, so its numbers tell an overlap.
use Rattle.std.proofs.Common.{◌≡◌, ◌<◌, List, [], ◌∷◌, refl, sym, ◌∙◌, inl, inr, arith}
use Rattle.rewriting.specs.Rules.{Eq}
use Rattle.rewriting.proofs.Members.{Mem}
use Rattle.critical_pairs.specs.OverlapList.{positions, Overlap, symbol, Numbered, next_number, numbered, overlaps_of, overlaps}
use Rattle.critical_pairs.specs.OverlapList.{Listed, this_one, later_one, Before, Sorted}
use Rattle.critical_pairs.specs.Theorems.{OverlapsListed}
use Rattle.critical_pairs.proofs.Lists.{all_map, all_flat_map, Ordered, ordered_map, ordered_flat_map}
use Rattle.critical_pairs.proofs.Positions.{StartsBefore, positions_ordered}
use Rattle.critical_pairs.proofs.OverlapList.{mem_if_listed, overlap_at, overlaps_with, overlaps_has, overlaps_only}

-- rules, by their numbers
abbrev NumberedBefore : Numbered → Numbered → Type 0
NumberedBefore m n = m.number < n.number

numbered_ordered : (rs : List Eq) → Ordered NumberedBefore (numbered rs)
numbered_ordered [] = tt
numbered_ordered (r ∷ rs) = (
  all_map next_number (λ (n : Numbered). 0 < n.number) (numbered rs) (λ n m. omega arith),
  ordered_map NumberedBefore NumberedBefore next_number (λ m n l. omega (arith, l)) (numbered rs) (numbered_ordered rs),
)

-- the numbers of the overlaps of two rules, and of one rule with any
of_both : (m n : Numbered) (o : Overlap) → Mem o (overlaps_of m n) → (o.i ≡ m.number) × (o.j ≡ n.number)
of_both m n = all_map (overlap_at m n) (λ (o : Overlap). (o.i ≡ m.number) × (o.j ≡ n.number)) (positions m.rule.left)
    (λ a k. (refl, refl))

of_first : (rs : List Eq) (m : Numbered) (o : Overlap) → Mem o (overlaps_with rs m) → o.i ≡ m.number
of_first rs m = all_flat_map (overlaps_of m) (λ (o : Overlap). o.i ≡ m.number) (numbered rs) (λ n k o l. (of_both m n o l).0)

-- in order: the overlaps of two rules, of one rule with any, and all
overlaps_of_ordered : (m n : Numbered) → Ordered Before (overlaps_of m n)
overlaps_of_ordered m n = ordered_map StartsBefore Before (overlap_at m n) (λ a b l. inr (refl, inr (refl, l)))
    (positions m.rule.left) (positions_ordered m.rule.left)

overlaps_with_ordered : (rs : List Eq) (m : Numbered) → Ordered Before (overlaps_with rs m)
overlaps_with_ordered rs m = ordered_flat_map NumberedBefore Before (overlaps_of m) (overlaps_of_ordered m)
    (λ a b l o p k h. let x = of_both m a o k in let y = of_both m b p h in inr (x.0 ∙ sym y.0, inl (omega (arith, l, x.1, y.1))))
    (numbered rs) (numbered_ordered rs)

overlaps_ordered : (rs : List Eq) → Ordered Before (overlaps rs)
overlaps_ordered rs = ordered_flat_map NumberedBefore Before (overlaps_with rs) (overlaps_with_ordered rs)
    (λ a b l o p k h. inl (omega (arith, l, of_first rs a o k, of_first rs b p h))) (numbered rs) (numbered_ordered rs)

sorted_if_ordered : (os : List Overlap) → Ordered Before os → Sorted os
sorted_if_ordered [] h = tt
sorted_if_ordered (o ∷ os) h = (λ p m. h.0 p (mem_if_listed m), sorted_if_ordered os h.1)

pub overlaps_sorted : (rs : List Eq) → Sorted (overlaps rs)
overlaps_sorted rs = sorted_if_ordered (overlaps rs) (overlaps_ordered rs)

-- of two different members one is before the other, which none is that has the same numbers
one_if_neither_before : (o p : Overlap) (os : List Overlap) → Sorted os → Listed o os → Listed p os →
    (Before o p → ⊥) → (Before p o → ⊥) → o ≡ p
one_if_neither_before o p os h this_one this_one a b = refl
one_if_neither_before o p os h this_one (later_one m) a b = absurd (a (h.0 p m))
one_if_neither_before o p os h (later_one l) this_one a b = absurd (b (h.0 o l))
one_if_neither_before o p os h (later_one l) (later_one m) a b = one_if_neither_before o p _ h.1 l m a b

not_before_if_same : (o p : Overlap) → o.i ≡ p.i → o.j ≡ p.j → symbol o ≡ symbol p → Before o p → ⊥
not_before_if_same o p e f g (inl l) = omega (arith, e, l)
not_before_if_same o p e f g (inr (i, inl l)) = omega (arith, f, l)
not_before_if_same o p e f g (inr (i, inr (j, l))) = omega (arith, g, l)

pub one_by_numbers : (rs : List Eq) (o p : Overlap) → Listed o (overlaps rs) → Listed p (overlaps rs) →
    o.i ≡ p.i → o.j ≡ p.j → symbol o ≡ symbol p → o ≡ p
one_by_numbers rs o p l m e f g = one_if_neither_before o p (overlaps rs) (overlaps_sorted rs) l m
    (not_before_if_same o p e f g) (not_before_if_same p o (sym e) (sym f) (sym g))

pub overlaps_are_listed : OverlapsListed
overlaps_are_listed = record { all = overlaps_has; only = overlaps_only; sorted = overlaps_sorted; one = one_by_numbers }
