-- So far the roots hold the terms from symbol k on.
use Rattle.std.proofs.Common.{◌≡◌}
use Rattle.std.specs.Slice.Exact.{rchunks_exact_rest, rchunks_exact_size}
use Rattle.store.proofs.Reading.{ToRead}
use Rattle.store.proofs.types.Store.read_row.Given as goal

abbrev pub invariant-loop-pair : goal.invariant-loop-pair
invariant-loop-pair l = (rchunks_exact_size l.pair-iterator ≡ 2)
    × ToRead l.parts l.words (rchunks_exact_rest l.pair-iterator) l.initial.self l.initial.roots l.self l.roots
