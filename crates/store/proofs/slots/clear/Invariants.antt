-- So far the first i slots are cleared.
use Rattle.store.specs.Cells.{Cleared}
use Rattle.store.proofs.slots.clear.Given as goal

abbrev pub invariant-loop-i : goal.invariant-loop-i
invariant-loop-i l = Cleared l.initial.ws l.i l.k l.ws
