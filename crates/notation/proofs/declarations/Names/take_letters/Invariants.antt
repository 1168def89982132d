-- at most 256 letters
use Rattle.std.proofs.Common.{◌-◌, ◌≤◌}
use Rattle.notation.proofs.declarations.Names.take_letters.Given as goal

abbrev pub invariant-loop-self : goal.invariant-loop-self
invariant-loop-self l = l.count ≤ 256

abbrev pub decreases-loop-self : goal.decreases-loop-self
decreases-loop-self l = 256 - l.count
