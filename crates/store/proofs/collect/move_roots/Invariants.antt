-- So far the first k roots are moved, and the others as they were.
use Rattle.store.specs.Stacks.{RootsMoved}
use Rattle.store.proofs.collect.move_roots.Given as goal

abbrev pub invariant-loop-k : goal.invariant-loop-k
invariant-loop-k l = RootsMoved l.ws l.initial.roots l.k l.roots
