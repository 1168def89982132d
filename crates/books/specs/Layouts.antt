-- Where the sides of a book's equations and rules stand in its row.
use Rattle.std.specs.Prelude.{◌≡◌, ℕ, ◌+◌, ◌<◌, ◌≤◌, List, [], ◌∷◌, ◌++◌, length, drop, Some, None, Option as Maybe, ◌≢◌, slice_index}
use Rattle.std.specs.Prelude.{slice_index_or}
use Rattle.std.proofs.Math.Option.{some}
use Rattle.rewriting.specs.Terms.{nth, Term, Terms, none1, and1, count, size, AllOver, SmallLetter}
use Rattle.rewriting.specs.Rules.{Eq}
use Rattle.rewriting.specs.Books.{Book}
use Rattle.books.specs.Rows.{Reads, rows}
use Rattle.books.specs.Reading.{TermAt, book_of, signs_of, parts_of, ranks_of, eqs_of, rules_of, body_of}
use Rattle.books.specs.declared.book.Head.{Head}
use Rattle.books.specs.declared.layout.Layout.{Layout}

-- the sides, in order: each left side and then its right
abbrev pub sides : List Eq → List Term
sides [] = []
sides (e ∷ es) = e.left ∷ e.right ∷ sides es

abbrev pub sides_of : Book → List Term
sides_of b = sides b.eqs ++ sides b.rules

-- each side stands from its start to its end; behind the last one's end the array holds 0
pub record Laid (s : List ℕ) (b : Book) (l : Layout) : Type 0 where
  pub signs : l.signs ≡ length b.parts
  pub equations : l.equations ≡ length b.eqs
  pub rules : l.rules ≡ length b.rules
  pub at : (i : ℕ) (t : Term) → nth (sides_of b) i ≡ some t → TermAt s (slice_index l.starts i) (slice_index l.starts (i + 1)) t
  pub behind : (i : ℕ) → length (sides_of b) < i → slice_index l.starts i ≡ 0

-- the words are the one book that they say, laid out so; or they are none
abbrev pub BookRead : List ℕ → Maybe Layout → Type 0
BookRead s (Some l) = Reads s (book_of s) × Laid s (book_of s) l
BookRead s None = (b : Book) → Reads s b → ⊥

-- none has more than 4; no two are equal
abbrev pub FewParts : List ℕ → Type 0
FewParts ps = (f : ℕ) → f < length ps → slice_index ps f ≤ 4

abbrev pub AllDiffer : List ℕ → Type 0
AllDiffer xs = (i j : ℕ) → i < j → j < length xs → slice_index xs i ≢ slice_index xs j

-- the numbers at the start are a book's
pub record HeadFine (s : List ℕ) : Type 0 where
  pub long : body_of s ≤ length s
  pub some_sign : 1 ≤ signs_of s
  pub few_signs : signs_of s ≤ 32
  pub few_parts : FewParts (parts_of s)
  pub differ : AllDiffer (ranks_of s)
  pub few_eqs : eqs_of s ≤ 64
  pub few_rules : rules_of s ≤ 64

-- these numbers, or that the words are no book
abbrev pub HeadRead : List ℕ → Maybe Head → Type 0
HeadRead s (Some h) = HeadFine s × (h.signs ≡ signs_of s) × (h.equations ≡ eqs_of s) × (h.rules ≡ rules_of s)
HeadRead s None = (b : Book) → Reads s b → ⊥

-- terms as a list; at most 32 letters and signs each
abbrev pub listed : Terms → List Term
listed none1 = []
listed (and1 t ts) = t ∷ listed ts

abbrev pub Short : Terms → Type 0
Short none1 = Unit {0}
Short (and1 t ts) = (size t ≤ 32) × Short ts

-- n sides stand in the words from place a up to place z, and where each of them does
pub record SidesAt (ps ws : List ℕ) (n a z : ℕ) (starts : List ℕ) : Type 0 where
  pub terms : Terms
  pub counted : count terms ≡ n
  pub over : AllOver SmallLetter ps terms
  pub short : Short terms
  pub written : drop a ws ≡ rows terms ++ drop z ws
  pub each : (i : ℕ) (t : Term) → nth (listed terms) i ≡ some t → TermAt ws (slice_index starts i) (slice_index starts (i + 1)) t
  pub last : slice_index_or starts n 0 ≡ z
  pub within : z ≤ length ws

-- n sides stand from place a to the end of the words, and what is behind the last one's end is 0; or they don't
abbrev pub SidesRead : List ℕ → List ℕ → ℕ → ℕ → Maybe (List ℕ) → Type 0
SidesRead ps ws n a (Some starts) = SidesAt ps ws n a (length ws) starts × ((i : ℕ) → n < i → slice_index starts i ≡ 0)
SidesRead ps ws n a None = (ts : Terms) → count ts ≡ n → AllOver SmallLetter ps ts → Short ts → rows ts ≢ drop a ws
