-- The rules so far go down.
use Rattle.std.proofs.Common.{◌-◌}
use Rattle.order.specs.Downward.{DownBefore}
use Rattle.order.proofs.down.first_up.Given as goal

abbrev pub invariant-rules : goal.invariant-rules
invariant-rules l = DownBefore l.book l.i

abbrev pub decreases-rules : goal.decreases-rules
decreases-rules l = l.book.layout.rules - l.i
