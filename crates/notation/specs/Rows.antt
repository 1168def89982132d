-- Rows of books with ways for their rules.
use Rattle.std.specs.Prelude.{ℕ, List, length}
use Rattle.rewriting.specs.Books.{Book}
use Rattle.books.specs.Rows.{Reads, SomeWays}
use Rattle.books.specs.Layouts.{Laid}
use Rattle.books.specs.declared.layout.Layout.{Layout}

-- the words s are a book's row, laid out so, and the words h are ways of terms of its signs, one for each rule
abbrev pub BookWays : List ℕ → List ℕ → Layout → Type 0
BookWays s h l = (b : Book) × Reads s b × Laid s b l × SomeWays b.parts (length b.rules) h
