-- A book that is known to go down, or the first of its rules that does not.
use Rattle.std.specs.Prelude.{◌≡◌, ℕ, Some, Ok, Err, Result}
use Rattle.books.specs.declared.row.Book.{Book}
use Rattle.order.specs.declared.terminating.Terminating.{Terminating}
use Rattle.order.specs.Downward.{FirstUp}

abbrev pub KnownOrUp : Book → Result Terminating ℕ → Type 0
KnownOrUp b (Ok t) = t.book ≡ b
KnownOrUp b (Err i) = FirstUp b (Some i)
