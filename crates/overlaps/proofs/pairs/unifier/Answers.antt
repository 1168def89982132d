-- The letters, the part and the other left side are made one after the other, and then unified.
use Rattle.std.proofs.Common.{arith}
use Rattle.overlaps.proofs.Positions.{at_within}
use Rattle.overlaps.proofs.Overlapping.{side_short}
use Rattle.overlaps.proofs.Pairing.{part_fills, other_fills, unifies, found}
use Rattle.overlaps.proofs.pairs.unifier.Goals as goal

pub offset_bounds-left-from : goal.offset_bounds-left-from
offset_bounds-left-from c =
    let s = c.requires.0 in
    let e = c.rule.ensures.left in
    omega (arith, at_within s.place _ e _ _ s.at, s.at.to, side_short c.args.book.now _ s.outer e)

pub slice_bounds-row_instance-end : goal.slice_bounds-row_instance-end
slice_bounds-row_instance-end c = let s = c.requires.0 in omega (arith, at_within s.place _ c.rule.ensures.left _ _ s.at)

pub row_instance-part-requires : goal.row_instance-part-requires
row_instance-part-requires c =
    let h = part_fills c.args.book.now c.requires.0 c.requires.1 c.clear.ensures c.all_letters-letters.ensures c.parts.ensures
    c.rule.ensures.left in
    record { few_parts = h.0; space = h.1 }

pub row_instance-other-requires : goal.row_instance-other-requires
row_instance-other-requires c =
    let h = other_fills c.args.book.now c.requires.0 c.requires.1 c.clear.ensures c.all_letters-letters.ensures c.parts.ensures
    c.rule.ensures.left c.row_instance-part.ensures c.shifted-renamed.ensures c.parts-2.ensures c.rule-2.ensures.left in
    record { few_parts = h.0; space = h.1 }

pub unify-requires : goal.unify-requires
unify-requires c = unifies c.args.book.now c.requires.0 c.requires.1 c.clear.ensures c.all_letters-letters.ensures c.parts.ensures
    c.rule.ensures.left c.row_instance-part.ensures c.shifted-renamed.ensures c.parts-2.ensures c.rule-2.ensures.left
    c.row_instance-other.ensures

pub returns : goal.returns
returns c = found c.args.book.now c.requires.0 c.requires.1 c.clear.ensures c.all_letters-letters.ensures c.parts.ensures
    c.rule.ensures.left c.row_instance-part.ensures c.shifted-renamed.ensures c.parts-2.ensures c.rule-2.ensures.left
    c.row_instance-other.ensures c.unify.ensures.sound c.unify.ensures.grown c.unify.ensures.few c.unify.ensures.unified
