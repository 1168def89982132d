-- The ways of the rules that are left stand at this place.
use Rattle.ways.specs.Walks.{Kept}
use Rattle.ways.proofs.Remaining.{LeftWays}
use Rattle.ways.proofs.walk.Walk.each.Given as goal

abbrev pub invariant-loop-i : goal.invariant-loop-i
invariant-loop-i l = Kept l.initial.self l.self × LeftWays l.initial.self.book.now l.initial.self.ways.now l.i l.at
