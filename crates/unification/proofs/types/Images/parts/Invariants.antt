-- So far the images of the first k parts are taken.
use Rattle.std.proofs.Common.{◌≡◌, ℕ, ◌<◌, length, get_or, Some}
use Rattle.store.specs.Stores.{part_in}
use Rattle.unification.specs.Classes.{label}
use Rattle.unification.specs.Images.{image}
use Rattle.unification.proofs.types.Images.parts.Given as goal

abbrev pub invariant-loop-k : goal.invariant-loop-k
invariant-loop-k l = (length l.parts ≡ 4) × ((j : ℕ) → j < l.k →
    image l.self (label l.classes (part_in l.store l.p.0 j)) ≡ Some (get_or l.parts j (record { 0 = 0 })))
