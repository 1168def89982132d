-- at most 32 signs
use Rattle.std.proofs.Common.{◌-◌, ◌≤◌}
use Rattle.notation.proofs.declarations.Names.take_signs.Given as goal

abbrev pub invariant-loop-self : goal.invariant-loop-self
invariant-loop-self l = l.count ≤ 32

abbrev pub decreases-loop-self : goal.decreases-loop-self
decreases-loop-self l = 32 - l.count
