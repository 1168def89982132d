-- So far the parts stand in the store.
use Rattle.std.proofs.Common.{◌≡◌, ℕ, ◌<◌, length, get_or}
use Rattle.unification_tests.proofs.terms.make.Given as goal

abbrev pub invariant-loop-k : goal.invariant-loop-k
invariant-loop-k l = (length l.places ≡ 4) × ((j : ℕ) → j < l.k → (get_or l.places j (record { 0 = 0 })).0 < l.store.count)
