-- One more slot passes its mark on.
use Rattle.std.proofs.Common.{◌-◌, arith}
use Rattle.store.proofs.Marking.{mark_start, mark_more}
use Rattle.store.proofs.collect.mark_reached.Goals as goal

pub loop-i-init : goal.loop-i-init
loop-i-init c = mark_start _ _

pub loop-i-preserved-then-get-ne0 : goal.loop-i-preserved-then-get-ne0
loop-i-preserved-then-get-ne0 c = mark_more c.args.count (c.loop-i.i - 1) c.loop-i.i c.args.ws.now c.loop-i.ws
    c.mark_parts.new.ws
    c.requires (omega arith) c.loop-i.invariant (omega arith) (λ z. omega arith) c.mark_parts.ensures
