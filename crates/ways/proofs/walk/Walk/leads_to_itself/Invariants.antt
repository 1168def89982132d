-- The parts that are still to be looked at, which get fewer.
use Rattle.std.proofs.Common.{◌-◌}
use Rattle.rewriting.specs.Terms.{sizes}
use Rattle.store.specs.Stores.{terms_down}
use Rattle.ways.specs.Walks.{OnlyRoots}
use Rattle.ways.proofs.Stepping.{Walking}
use Rattle.ways.proofs.walk.Walk.leads_to_itself.Given as goal

abbrev pub invariant-loop-self : goal.invariant-loop-self
invariant-loop-self l = OnlyRoots l.initial.self l.self
    × Walking l.initial.self.book.now l.initial.self.store.now l.base l.initial.self.roots.now l.self.roots.now

abbrev pub decreases-loop-self : goal.decreases-loop-self
decreases-loop-self l = sizes (terms_down l.initial.self.store.now l.self.roots.now l.base (l.self.roots.now.top - l.base))
