-- The theorems, as types: rows say at most one thing.
use Rattle.std.specs.Prelude.{◌≡◌, ℕ, List, [], ◌∷◌}
use Rattle.rewriting.specs.Terms.{Term, letter}
use Rattle.rewriting.specs.Books.{Book}
use Rattle.rewriting.specs.Sums.{plus, zero}
use Rattle.books.specs.Rows.{Reads, Of, WaysFit, row, rowWays}
use Rattle.books.specs.Reading.{book_of}

-- a row is the writing of at most one book, which is a function of the words; of at most one term; of at most one list of ways
abbrev pub OneBook : Type 0
OneBook = (s : List ℕ) (b c : Book) → Reads s b → Reads s c → b ≡ c

abbrev pub TheBook : Type 0
TheBook = (s : List ℕ) (b : Book) → Reads s b → book_of s ≡ b

abbrev pub OneTerm : Type 0
OneTerm = (ps a : List ℕ) (t u : Term) → Of ps a t → Of ps a u → t ≡ u

abbrev pub OneWays : Type 0
OneWays = (ps h : List ℕ) (ws vs : List (List Term)) → WaysFit ps ws → WaysFit ps vs → rowWays ws ≡ h → rowWays vs ≡ h → ws ≡ vs

pub record OneReading : Type 0 where
  pub book : OneBook
  pub the_book : TheBook
  pub term : OneTerm
  pub ways : OneWays

-- the row of plus(zero, letter 3)
abbrev pub SumRow : Type 0
SumRow = row (plus zero (letter 3)) ≡ 1 ∷ 2 ∷ 1 ∷ 0 ∷ 0 ∷ 3 ∷ []
