-- All overlaps so far are joined.
use Rattle.overlaps.proofs.Going.{Going}
use Rattle.overlaps.proofs.ends.one_end.Given as goal

abbrev pub invariant-pairs : goal.invariant-pairs
invariant-pairs l = Going l.book l.initial.reducer l.i 0 0 l.reducer l.found

abbrev pub invariant-loop-j : goal.invariant-loop-j
invariant-loop-j l = Going l.book l.initial.reducer l.i l.j 0 l.reducer l.found

abbrev pub invariant-loop-k : goal.invariant-loop-k
invariant-loop-k l = Going l.book l.initial.reducer l.i l.j l.k l.reducer l.found
