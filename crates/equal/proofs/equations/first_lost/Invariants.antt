-- The sides of the equations so far meet, and nothing is left behind.
use Rattle.engine.specs.Reducers.{LeftIdle}
use Rattle.equal.specs.Judging.{KeptBefore}
use Rattle.equal.proofs.equations.first_lost.Given as goal

abbrev pub invariant-loop-i : goal.invariant-loop-i
invariant-loop-i l = LeftIdle l.initial.reducer l.reducer × KeptBefore l.initial.reducer.rules.now.book l.i
