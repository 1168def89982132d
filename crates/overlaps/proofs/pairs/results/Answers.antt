-- The right sides, and the left side with a hole, are built one after the other.
use Rattle.overlaps.proofs.Positions.{at_within, at_some}
use Rattle.overlaps.proofs.Overlapping.{side_short}
use Rattle.overlaps.proofs.Pairing.{outer_fills, inner_fills, context_fills, results_built}
use Rattle.overlaps.proofs.pairs.results.Goals as goal

pub row_instance-first-requires-clause-few_parts : goal.row_instance-first-requires-clause-few_parts
row_instance-first-requires-clause-few_parts c =
    (outer_fills c.args.book.now c.requires.stands.0 c.requires.stands.1 c.requires.space c.parts.ensures c.rule.ensures.right).0

pub row_instance-inner-requires : goal.row_instance-inner-requires
row_instance-inner-requires c =
    let h = inner_fills c.args.book.now c.requires.stands.0 c.requires.stands.1 c.requires.space c.parts.ensures c.rule.ensures.right
    c.row_instance-first.ensures c.shifted-renamed.ensures c.parts-2.ensures c.rule-2.ensures.right in
    record { few_parts = h.0; space = h.1 }

pub with_hole-context-requires : goal.with_hole-context-requires
with_hole-context-requires c =
    let o = c.args.overlap in
    let s = c.requires.stands.0 in
    let e = c.rule.ensures.left in
    (at_some s.place _ e o.from o.to s.at, (at_within s.place _ e o.from o.to s.at, side_short c.args.book.now o.outer s.outer e))

pub row_instance-second-requires : goal.row_instance-second-requires
row_instance-second-requires c =
    let h = context_fills c.args.book.now c.requires.stands.0 c.requires.stands.1 c.requires.space c.parts.ensures c.rule.ensures.right
    c.row_instance-first.ensures c.shifted-renamed.ensures c.parts-2.ensures c.rule-2.ensures.right
    c.row_instance-inner.ensures c.rule.ensures.left c.with_hole-context.ensures.is c.bind_hole-filling.ensures
    c.parts-3.ensures in
    record { few_parts = h.0; space = h.1 }

pub returns : goal.returns
returns c = results_built c.args.book.now c.requires.stands.0 c.requires.stands.1 c.requires.space c.parts.ensures c.rule.ensures.right
    c.row_instance-first.ensures c.shifted-renamed.ensures c.parts-2.ensures c.rule-2.ensures.right
    c.row_instance-inner.ensures c.rule.ensures.left c.with_hole-context.ensures.is c.bind_hole-filling.ensures
    c.parts-3.ensures c.row_instance-second.ensures
