-- So far h is the hash with the numbers before this one.
use Rattle.std.proofs.Common.{◌≡◌, get_or}
use Rattle.store.specs.Chains.{hash_of}
use Rattle.store.proofs.chains.hash.Given as goal

abbrev pub invariant-loop-p : goal.invariant-loop-p
invariant-loop-p l = l.h ≡ hash_of l.start (λ k. get_or l.parts k 0) l.p-index
