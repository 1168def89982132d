-- The parts from k on are pending.
use Rattle.std.proofs.Common.{◌≡◌, ◌+◌, ◌-◌}
use Rattle.engine.specs.Lists.{list_len}
use Rattle.store.specs.Slots.{parts_by}
use Rattle.store.specs.Stores.{term_in, part_in}
use Rattle.engine.specs.Matching.{Pushed}
use Rattle.engine.proofs.places.push_parts.Given as goal

abbrev pub invariant-loop-k : goal.invariant-loop-k
invariant-loop-k l = (list_len l.pending ≡ list_len l.initial.pending + (l.n - l.k))
    × Pushed l.store l.initial.pending.items
    (parts_by (λ j. term_in l.store j) (λ m. part_in l.store l.p.0 m) l.k (l.n - l.k)) l.pending.items
