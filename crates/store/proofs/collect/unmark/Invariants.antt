-- So far the first i slots are cleared.
use Rattle.store.specs.Marks.{Unmarked}
use Rattle.store.proofs.collect.unmark.Given as goal

abbrev pub invariant-loop-i : goal.invariant-loop-i
invariant-loop-i l = Unmarked l.initial.ws l.i l.ws
