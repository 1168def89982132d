-- The list of overlaps: what is in it, and nothing else is.
use Rattle.std.proofs.Common.{◌≡◌, ℕ, zero, suc, List, [], ◌∷◌, refl, subst}
use Rattle.std.specs.List.{flat_map}
use mathlib.Core.Option.{some}
use Rattle.rewriting.specs.Terms.{nth}
use Rattle.rewriting.specs.Rules.{Eq}
use Rattle.rewriting.proofs.Choosing.{no_some}
use Rattle.rewriting.proofs.Members.{Mem, first, later}
use Rattle.critical_pairs.specs.OverlapList.{Position, positions, Overlap, Numbered, next_number, numbered, overlaps_of, overlaps}
use Rattle.critical_pairs.specs.OverlapList.{Listed, this_one, later_one}
use Rattle.critical_pairs.proofs.Lists.{mem_map, mem_flat_map, all_map, all_flat_map}
use Rattle.critical_pairs.proofs.Positions.{position_listed}

-- listed is to be a member
pub listed_if_mem : {o : Overlap} {os : List Overlap} → Mem o os → Listed o os
listed_if_mem first = this_one
listed_if_mem (later m) = later_one (listed_if_mem m)

pub mem_if_listed : {o : Overlap} {os : List Overlap} → Listed o os → Mem o os
mem_if_listed this_one = first
mem_if_listed (later_one m) = later (mem_if_listed m)

-- rules with their numbers
numbered_has : (rs : List Eq) (i : ℕ) (r : Eq) → nth rs i ≡ some r → Mem (record { number = i; rule = r }) (numbered rs)
numbered_has [] i r e = absurd (no_some e)
numbered_has (q ∷ rs) zero r e = let d : q ≡ r = cc in
    subst (λ (w : Eq). Mem (record { number = 0; rule = w }) (numbered (q ∷ rs))) d first
numbered_has (q ∷ rs) (suc i) r e = later (mem_map next_number (numbered_has rs i r e))

numbered_only : (rs : List Eq) (n : Numbered) → Mem n (numbered rs) → nth rs n.number ≡ some n.rule
numbered_only [] n m = elim m [ ]
numbered_only (q ∷ rs) n first = refl
numbered_only (q ∷ rs) n (later m) =
    all_map next_number (λ (k : Numbered). nth (q ∷ rs) k.number ≡ some k.rule) (numbered rs) (λ k l. numbered_only rs k l) n m

-- the overlap of two rules at a position, and all of one rule with any
abbrev pub overlap_at : (m n : Numbered) → Position m.rule.left → Overlap
overlap_at m n a = record { i = m.number; j = n.number; p = m.rule; q = n.rule; at = a }

abbrev pub overlaps_with : List Eq → Numbered → List Overlap
overlaps_with rs m = flat_map (overlaps_of m) (numbered rs)

pub overlaps_has : (rs : List Eq) (i j : ℕ) (p q : Eq) → nth rs i ≡ some p → nth rs j ≡ some q → (a : Position p.left) →
    Listed (record { i = i; j = j; p = p; q = q; at = a }) (overlaps rs)
overlaps_has rs i j p q is_p is_q a = listed_if_mem (
    mem_flat_map (overlaps_with rs) (numbered_has rs i p is_p) (
    mem_flat_map (overlaps_of m) (numbered_has rs j q is_q) (
    mem_map (overlap_at m n) (position_listed a))))
  where
    m : Numbered
    m = record { number = i; rule = p }

    n : Numbered
    n = record { number = j; rule = q }

pub overlaps_only : (rs : List Eq) (o : Overlap) → Listed o (overlaps rs) → (nth rs o.i ≡ some o.p) × (nth rs o.j ≡ some o.q)
overlaps_only rs o h = all_flat_map (overlaps_with rs) OfRules (numbered rs)
    (λ m k. all_flat_map (overlaps_of m) OfRules (numbered rs)
    (λ n l. all_map (overlap_at m n) OfRules (positions m.rule.left) (λ a b. (numbered_only rs m k, numbered_only rs n l))))
    o (mem_if_listed h)
  where
    OfRules : Overlap → Type 0
    OfRules o = (nth rs o.i ≡ some o.p) × (nth rs o.j ≡ some o.q)
