-- One part more.
use Rattle.std.proofs.Common.{arith}
use Rattle.engine.proofs.Pendings.{parts_more}
use Rattle.engine.proofs.places.push_parts.Goals as goal

pub loop-k-preserved : goal.loop-k-preserved
loop-k-preserved c = (
  omega (arith, c.loop-k.invariant.0, c.push.ensures.len),
  parts_more c.args.store.now c.args.pending.now.items c.loop-k.pending.items c.push.new.self.items c.args.p.0 c.loop-k.k c.args.n
      c.part.result c.loop-k-test.true c.loop-k.auto.k c.part.ensures.is (omega (arith, c.part.ensures.below))
      c.push.ensures.items c.loop-k.invariant.1,
)
