-- Matching has come to the words that are left.
use Rattle.std.proofs.Common.{◌≡◌}
use Rattle.engine.proofs.Chunks.{MatchedTo}
use Rattle.engine.proofs.matching.bind_pattern.Given as goal

abbrev pub invariant-loop-pair : goal.invariant-loop-pair
invariant-loop-pair l = (l.pair-iterator.size ≡ 2)
    × MatchedTo l.pattern l.initial.bindings l.store l.fn.p l.pair-iterator.rest.now l.pending.items l.bindings
