-- The terms before are the same.
use Rattle.std.proofs.Common.{◌-◌, length}
use Rattle.order.specs.Comparing.{Skips}
use Rattle.order.proofs.terms.Comparison.first_difference.Given as goal

abbrev pub invariant-loop-c : goal.invariant-loop-c
invariant-loop-c l = Skips l.self l.fn.lefts l.fn.rights l.a l.b

abbrev pub decreases-loop-c : goal.decreases-loop-c
decreases-loop-c l = length l.self.left.now - l.a.start
