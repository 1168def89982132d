-- What has to be one is merged, and each turn leaves fewer classes.
use Rattle.std.proofs.Common.{◌≡◌}
use Rattle.unification.specs.Classes.{class_count, Coarser}
use Rattle.unification.proofs.closing.Closing.saturate.Given as goal

abbrev pub invariant-loop-p : goal.invariant-loop-p
invariant-loop-p l = (l.self.store.now ≡ l.initial.self.store.now) × Coarser l.initial.self.store.now l.initial.self.classes l.self.classes

abbrev pub decreases-loop-p : goal.decreases-loop-p
decreases-loop-p l = class_count l.self.classes l.self.store.now.count
