-- At the top, nowhere, or one level further down.
use Rattle.std.proofs.Common.{refl}
use Rattle.ways.proofs.Stepping.{found_top, none_found, narrowed_more}
use Rattle.ways.proofs.walk.Walk.leads_to_other.Goals as goal

pub returns-then-equated : goal.returns-then-equated
returns-then-equated c =
    found_top c.args.self.now.book.now c.args.self.now.store.now c.args.p c.args.q c.loop-p.p c.loop-p.q c.loop-p.invariant
    (c.if-equated.ensures.holds refl)

pub returns-in_default : goal.returns-in_default
returns-in_default c =
    none_found c.args.self.now.book.now c.args.self.now.store.now c.args.p c.args.q c.loop-p.p c.loop-p.q c.loop-p.invariant
    (c.if-equated.ensures.fails refl) c.in_default.ensures

pub loop-p-preserved : goal.loop-p-preserved
loop-p-preserved c =
    narrowed_more c.args.self.now.book.now c.args.self.now.store.now c.args.p c.args.q c.loop-p.p c.loop-p.q c.loop-p.invariant
    (c.if-equated.ensures.fails refl) c.in-Some.k c.in-Some.ensures c.part-p.result c.part-q.result
    c.part-p.ensures.is c.part-q.ensures.is c.part-p.ensures.below c.part-q.ensures.below
