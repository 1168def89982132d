-- What is left after the terms that are still to be read is what is left after all.
use Rattle.std.proofs.Common.{◌≡◌, ◌-◌, ◌≤◌, length, drop}
use Rattle.books.specs.Reading.{read, left_of}
use Rattle.books.proofs.words.terms_end.Given as goal

abbrev pub invariant-loop-pending : goal.invariant-loop-pending
invariant-loop-pending l = (l.i ≤ length l.words) × (l.at ≤ l.i)
    × (left_of (read l.letters l.parts l.pending (drop l.i l.words))
    ≡ left_of (read l.letters l.parts l.count (drop l.at l.words)))

abbrev pub decreases-loop-pending : goal.decreases-loop-pending
decreases-loop-pending l = length l.words - l.i
