-- A book by its words: its equations and rules, and where their sides stand.
use Rattle.std.specs.Prelude.{◌≡◌, ℕ, ◌-◌, List, take, drop, Some, None, Option as Maybe, slice_index_or}
use Rattle.rewriting.specs.Terms.{letter}
use Rattle.rewriting.specs.Rules.{Eq}
use Rattle.rewriting.specs.Books.{Book as Told}
use Rattle.books.specs.Rows.{Reads}
use Rattle.books.specs.Reading.{book_of, TermAt}
use Rattle.books.specs.Layouts.{Laid}
use Rattle.books.specs.declared.row.Book.{Book}
use Rattle.books.specs.declared.row.Sides.{Sides}

-- the book that the words say
abbrev pub told : Book → Told
told k = book_of k.words.now

-- the words are a book's, laid out so
pub record SoundBook (k : Book) : Type 0 where
  pub reads : Reads k.words.now (told k)
  pub laid : Laid k.words.now (told k) k.layout

-- and each is so, by what the type keeps
pub sound_book_in : (k : Book) → SoundBook k
sound_book_in k = record { reads = k.reads; laid = k.laid }

-- the book of just these words; or they are none
abbrev pub RowRead : List ℕ → Maybe Book → Type 0
RowRead s (Some k) = k.words.now ≡ s
RowRead s None = (b : Told) → Reads s b → ⊥

-- rule i and equation i; for numbers of none, some other
abbrev pub blank : Eq
blank = record { left = letter 0; right = letter 0 }

abbrev pub rule_in : Book → ℕ → Eq
rule_in k i = slice_index_or (told k).rules i blank

abbrev pub equation_in : Book → ℕ → Eq
equation_in k i = slice_index_or (told k).eqs i blank

-- where the sides of rule i stand in the words
pub record RuleAt (k : Book) (i a m z : ℕ) : Type 0 where
  pub left : TermAt k.words.now a m (rule_in k i).left
  pub right : TermAt k.words.now m z (rule_in k i).right

-- where the sides of equation i stand in the words
pub record EquationAt (k : Book) (i a m z : ℕ) : Type 0 where
  pub left : TermAt k.words.now a m (equation_in k i).left
  pub right : TermAt k.words.now m z (equation_in k i).right

-- the slices are the words from place a up to place m, and from there up to place z
pub record CutAt (k : Book) (a m z : ℕ) (s : Sides) : Type 0 where
  pub left : s.left.now ≡ take (m - a) (drop a k.words.now)
  pub right : s.right.now ≡ take (z - m) (drop m k.words.now)

-- the slices are where rule i, or equation i, stands in the words
abbrev pub RuleStands : Book → ℕ → Sides → Type 0
RuleStands k i s = (a : ℕ) × (m : ℕ) × (z : ℕ) × RuleAt k i a m z × CutAt k a m z s

abbrev pub EquationStands : Book → ℕ → Sides → Type 0
EquationStands k i s = (a : ℕ) × (m : ℕ) × (z : ℕ) × EquationAt k i a m z × CutAt k a m z s
