-- The classes are closed at the first i places.
use Rattle.std.proofs.Common.{ℕ, ◌<◌}
use Rattle.unification.specs.Classes.{ClosedAt}
use Rattle.unification.proofs.closing.Closing.check.Given as goal

abbrev pub invariant-loop-i : goal.invariant-loop-i
invariant-loop-i l = (k : ℕ) → k < l.i → ClosedAt l.self.store.now l.self.store.now.count l.self.classes k
