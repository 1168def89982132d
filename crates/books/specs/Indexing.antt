-- The rules of a book by their top signs.
use Rattle.std.specs.Prelude.{◌≡◌, ℕ, ◌+◌, ◌*◌, ◌<◌, ◌≤◌, ◌≢◌, List, Some, None, Option as Maybe, length, slice_index, slice_index_or}
use Rattle.rewriting.specs.Terms.{Term, letter, sign}
use Rattle.rewriting.specs.Books.{Book}
use Rattle.books.specs.declared.index.Index.{Index}

-- the number of the first symbol of rule i's left side
abbrev pub top_word : List ℕ → List ℕ → ℕ → ℕ → ℕ
top_word ws starts e i = slice_index ws (slice_index starts (2 * (e + i)) + 1)

-- the number of a term's first symbol, and that of the left side of a book's rule i
abbrev pub top_number : Term → ℕ
top_number (letter x) = x
top_number (sign f ts) = f

abbrev pub rule_top : Book → ℕ → ℕ
rule_top b i = top_number (slice_index_or b.rules i (record { left = letter 0; right = letter 0 })).left

-- the first number from a on, of those below n, at which t is f; or there is none
abbrev pub FirstFrom : (ℕ → ℕ) → ℕ → ℕ → ℕ → Maybe ℕ → Type 0
FirstFrom t n a f (Some i) = (a ≤ i) × (i < n) × (t i ≡ f) × ((j : ℕ) → a ≤ j → j < i → t j ≢ f)
FirstFrom t n a f None = (j : ℕ) → a ≤ j → j < n → t j ≢ f

-- the rules from number m on, of n, by their top signs t: the first with a sign, and the next with the sign of one
pub record IndexedFrom (t : ℕ → ℕ) (n m : ℕ) (firsts nexts : List (Maybe ℕ)) : Type 0 where
  pub first : (f : ℕ) → f < 32 → FirstFrom t n m f (slice_index_or firsts f None)
  pub next : (i : ℕ) → m ≤ i → i < n → t i < 32 → FirstFrom t n (i + 1) (t i) (slice_index_or nexts i None)

-- all of them
abbrev pub Indexed : (ℕ → ℕ) → ℕ → Index → Type 0
Indexed t n x = IndexedFrom t n 0 x.first x.next

-- those of a book, by the top signs of their left sides
abbrev pub RulesIndexed : Book → Index → Type 0
RulesIndexed b x = Indexed (rule_top b) (length b.rules) x
