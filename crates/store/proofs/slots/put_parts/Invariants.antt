-- So far the first k parts are written.
use Rattle.store.specs.Slots.{PartsWritten}
use Rattle.store.proofs.slots.put_parts.Given as goal

abbrev pub invariant-loop-k : goal.invariant-loop-k
invariant-loop-k l = PartsWritten l.initial.ws l.n l.ps l.k l.ws
