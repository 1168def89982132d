-- So far the first k parts are marked.
use Rattle.store.specs.Slots.{part_at}
use Rattle.store.specs.Marks.{MarkedToo}
use Rattle.store.proofs.collect.mark_parts.Given as goal

abbrev pub invariant-loop-k : goal.invariant-loop-k
invariant-loop-k l = MarkedToo (λ k. part_at l.initial.ws l.i k) l.k l.initial.ws l.ws
