-- Which rules of a book go down.
use Rattle.std.specs.Prelude.{ℕ, ◌<◌, length, Some, None, Option as Maybe}
use Rattle.rewriting.specs.Order.{rank, Greater, AllDown}
use Rattle.books.specs.declared.row.Book.{Book}
use Rattle.books.specs.Books.{told, rule_in}

-- rule i goes down
abbrev pub GoesDown : Book → ℕ → Type 0
GoesDown k i = Greater (rank (told k).ranks) (rule_in k i).left (rule_in k i).right

-- the rules before i go down
abbrev pub DownBefore : Book → ℕ → Type 0
DownBefore k i = (j : ℕ) → j < i → GoesDown k j

-- the first rule that doesn't, or that all do
abbrev pub FirstUp : Book → Maybe ℕ → Type 0
FirstUp k (Some i) = (i < length (told k).rules) × (GoesDown k i → ⊥) × DownBefore k i
FirstUp k None = AllDown (rank (told k).ranks) (told k).rules
