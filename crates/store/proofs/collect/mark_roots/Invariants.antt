-- So far the first k roots are marked.
use Rattle.store.specs.Stacks.{root_in}
use Rattle.store.specs.Marks.{MarkedToo}
use Rattle.store.proofs.collect.mark_roots.Given as goal

abbrev pub invariant-loop-k : goal.invariant-loop-k
invariant-loop-k l = MarkedToo (λ k. root_in l.roots k) l.k l.initial.ws l.ws
