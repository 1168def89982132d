-- Books with names: what reading promises of them.
use Rattle.std.specs.Prelude.{◌≡◌, ℕ, List, ◌∷◌, ◌++◌, map, length, vec_items}
use Rattle.rewriting.specs.Books.{Book}
use Rattle.books.specs.Rows.{Reads, SomeWays}
use Rattle.books.specs.Layouts.{Laid}
use Rattle.notation.specs.declared.book.Book.{Book as NamedBook}
use Rattle.notation.specs.declared.sections.Sides.{Sides}
use Rattle.notation.specs.declared.signature.Sign.{Sign}

-- the parts and the ranks of signs
abbrev pub parts_in : List Sign → List ℕ
parts_in ss = map (λ s. s.parts) ss

abbrev pub ranks_in : List Sign → List ℕ
ranks_in ss = map (λ s. s.rank) ss

-- the row of a book with these signs and these sides
abbrev pub row_with : List Sign → Sides → List ℕ
row_with ss x = x.signs ∷ (parts_in ss ++ (ranks_in ss ++ (x.equations ∷ x.rules ∷ vec_items x.row)))

-- the words are the row of a book, laid out so; its signs have the parts and ranks that go with the names, and the other words are ways
-- of terms of these signs, one for each rule
pub record Whole (k : NamedBook) : Type 0 where
  pub book : Book
  pub reads : Reads (vec_items k.words) book
  pub laid : Laid (vec_items k.words) book k.layout
  pub parts : parts_in (vec_items k.signature.signs) ≡ book.parts
  pub ranks : ranks_in (vec_items k.signature.signs) ≡ book.ranks
  pub ways : SomeWays book.parts (length book.rules) (vec_items k.ways)
