-- So far the words up to `at` are written, and the roots hold the rest, which gets smaller.
use Rattle.std.proofs.Common.{◌-◌}
use Rattle.rewriting.specs.Terms.{sizes}
use Rattle.store.specs.Stores.{held, terms_down}
use Rattle.store.proofs.Emitting.{Emitted}
use Rattle.store.proofs.types.Store.write_row.Given as goal

abbrev pub invariant-loop-roots : goal.invariant-loop-roots
invariant-loop-roots l = Emitted l.self l.base l.initial.roots (held l.self l.initial.roots l.base) l.initial.out l.at
    l.roots l.out

abbrev pub decreases-loop-roots : goal.decreases-loop-roots
decreases-loop-roots l = sizes (terms_down l.self l.roots l.base (l.roots.top - l.base))
