-- So far the slots from i on have passed their marks on.
use Rattle.store.specs.Marks.{AllMarked}
use Rattle.store.proofs.collect.mark_reached.Given as goal

abbrev pub invariant-loop-i : goal.invariant-loop-i
invariant-loop-i l = AllMarked l.i l.count l.initial.ws l.ws
