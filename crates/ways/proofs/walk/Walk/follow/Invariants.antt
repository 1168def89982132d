-- The terms that are left stand at this place.
use Rattle.std.proofs.Common.{◌-◌}
use Rattle.store.specs.Stores.{held}
use Rattle.ways.specs.Walks.{Kept, UnderWay}
use Rattle.ways.proofs.Following.{Follows}
use Rattle.ways.proofs.walk.Walk.follow.Given as goal

abbrev pub invariant-loop : goal.invariant-loop
invariant-loop l = UnderWay l.self × Kept l.initial.self l.self
    × Follows l.initial.self.book.now l.initial.self.ways.now l.from l.count (held l.initial.self.store.now l.initial.self.roots.now 0)
    l.at (l.count - l.counter) (held l.self.store.now l.self.roots.now 0)
