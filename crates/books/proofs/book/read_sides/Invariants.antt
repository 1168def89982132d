-- The sides so far stand where the starts say, whatever stands behind those.
use Rattle.std.proofs.Common.{◌≡◌, ℕ, List, ◌∷◌, ◌++◌, length}
use Rattle.books.specs.Layouts.{SidesAt}
use Rattle.books.proofs.book.read_sides.Given as goal

abbrev pub invariant-loop-start : goal.invariant-loop-start
invariant-loop-start l = ((ys : List ℕ) → SidesAt l.parts l.words l.start-index l.from l.at (l.from ∷ (l.start-items ++ ys)))
    × (length l.start-items ≡ l.count)
