-- Reading rows, as functions of the words: some terms in a row, and the book that a row says.
use Rattle.std.specs.Prelude.{◌≡◌, ℕ, zero, suc, ◌+◌, ◌*◌, ◌<◌, ◌≤◌, Bool, true, cond, List, [], ◌∷◌, ◌++◌, length, take, drop, Some, None}
use Rattle.std.specs.Prelude.{Option as Maybe, ◌≢◌, nat_lt, slice_index}
use Rattle.std.proofs.Math.Option.{Option, some, none}
use Rattle.rewriting.specs.Terms.{nth, Term, letter, sign, Terms, none1, and1, count, size, sizes, AllOver, Over}
use Rattle.rewriting.specs.Rules.{Eq}
use Rattle.rewriting.specs.Books.{Book}
use Rattle.books.specs.Rows.{row, rows}
use Rattle.books.specs.declared.words.Letters.{Letters}
use Rattle.books.specs.declared.words.Letters.TheVariants.{Small, Any}
use Rattle.books.specs.declared.words.Symbol.{Symbol}
use Rattle.books.specs.declared.words.Symbol.TheVariants.{Letter, Sign}

-- the letters that are allowed, as a type and as a test
abbrev pub Allowed : Letters → ℕ → Type 0
Allowed Small x = x < 16
Allowed Any x = Unit {0}

abbrev pub allowed : Letters → ℕ → Bool
allowed Small x = nat_lt x 16
allowed Any x = true

-- how many terms a symbol of two words asks for: a letter none, a sign its parts; none where it is no symbol
abbrev pub opens : Letters → List ℕ → ℕ → ℕ → Option ℕ
opens l ps zero x = cond (allowed l x) (some 0) none
opens l ps (suc zero) x = nth ps x
opens l ps (suc (suc w)) x = none

-- the two words of a symbol
abbrev pub tag : Symbol → ℕ
tag (Letter x) = 0
tag (Sign f) = 1

abbrev pub number : Symbol → ℕ
number (Letter x) = x
number (Sign f) = f

-- the symbol at a place, or that there is none
abbrev pub SymbolAt : List ℕ → ℕ → Maybe Symbol → Type 0
SymbolAt ws a (Some y) = (a + 2 ≤ length ws) × (slice_index ws a ≡ tag y) × (slice_index ws (a + 1) ≡ number y)
SymbolAt ws a None = a + 2 ≤ length ws → 2 ≤ slice_index ws a

-- how many terms a symbol asks for, or that it is none of the signature's
abbrev pub Asks : Letters → List ℕ → Symbol → Maybe ℕ → Type 0
Asks l ps y (Some n) = opens l ps (tag y) (number y) ≡ some n
Asks l ps y None = opens l ps (tag y) (number y) ≡ none

-- the first n terms, and the others
abbrev pub first : ℕ → Terms → Terms
first zero ts = none1
first (suc n) none1 = none1
first (suc n) (and1 t ts) = and1 t (first n ts)

abbrev pub others : ℕ → Terms → Terms
others zero ts = ts
others (suc n) none1 = none1
others (suc n) (and1 t ts) = others n ts

-- terms that were read, and the words that are left
abbrev pub Found : Type 0
Found = Option (Terms × List ℕ)

abbrev pub symbol : ℕ → ℕ → Terms → Term
symbol zero x ts = letter x
symbol (suc w) x ts = sign x ts

-- the first n of the terms behind a symbol become its parts
abbrev pub topped : ℕ → ℕ → ℕ → Found → Found
topped w x n none = none
topped w x n (some p) = some (and1 (symbol w x (first n p.0)) (others n p.0), p.1)

abbrev pub opened : ℕ → ℕ → Option ℕ → (ℕ → Found) → Found
opened w x none more = none
opened w x (some n) more = topped w x n (more n)

-- reads m terms: after a symbol that asks for n terms there are n more to read
abbrev pub read : Letters → List ℕ → ℕ → List ℕ → Found
read l ps zero ws = some (none1, ws)
read l ps (suc m) [] = none
read l ps (suc m) (w ∷ []) = none
read l ps (suc m) (w ∷ x ∷ ws) = opened w x (opens l ps w x) (λ n. read l ps (n + m) ws)

-- the words that are left
abbrev pub left_of : Found → Option (List ℕ)
left_of none = none
left_of (some p) = some p.1

abbrev pub terms_of : Found → Terms
terms_of none = none1
terms_of (some p) = p.0

-- m terms stand in the words from place a up to place z
pub record TermsAt (l : Letters) (ps : List ℕ) (m : ℕ) (ws : List ℕ) (a z : ℕ) : Type 0 where
  pub terms : Terms
  pub counted : count terms ≡ m
  pub over : AllOver (Allowed l) ps terms
  pub written : drop a ws ≡ rows terms ++ drop z ws
  pub long : z ≡ a + 2 * sizes terms
  pub within : z ≤ length ws

-- where m terms end that start at place a, or that there are none
abbrev pub TermsEnd : Letters → List ℕ → ℕ → List ℕ → ℕ → Maybe ℕ → Type 0
TermsEnd l ps m ws a (Some z) = TermsAt l ps m ws a z
TermsEnd l ps m ws a None =
    a ≤ length ws → (ts : Terms) (rest : List ℕ) → count ts ≡ m → AllOver (Allowed l) ps ts → rows ts ++ rest ≢ drop a ws

-- one term t stands in the words from place a up to place z
pub record TermAt (ws : List ℕ) (a z : ℕ) (t : Term) : Type 0 where
  pub written : drop a ws ≡ row t ++ drop z ws
  pub long : z ≡ a + 2 * size t
  pub within : z ≤ length ws

-- where a term ends that starts at place a, or that there is none
abbrev pub TermEnd : Letters → List ℕ → List ℕ → ℕ → Maybe ℕ → Type 0
TermEnd l ps ws a (Some z) = (t : Term) × Over (Allowed l) ps t × TermAt ws a z t
TermEnd l ps ws a None = (t : Term) (rest : List ℕ) → Over (Allowed l) ps t → row t ++ rest ≢ drop a ws

-- where the parts of a book's row stand
abbrev pub signs_of : List ℕ → ℕ
signs_of s = slice_index s 0

abbrev pub parts_of : List ℕ → List ℕ
parts_of s = take (signs_of s) (drop 1 s)

abbrev pub ranks_of : List ℕ → List ℕ
ranks_of s = take (signs_of s) (drop (1 + signs_of s) s)

abbrev pub eqs_of : List ℕ → ℕ
eqs_of s = slice_index s (1 + 2 * signs_of s)

abbrev pub rules_of : List ℕ → ℕ
rules_of s = slice_index s (2 + 2 * signs_of s)

-- the place of the first side
abbrev pub body_of : List ℕ → ℕ
body_of s = 3 + 2 * signs_of s

-- terms by twos, as equations
abbrev pub paired : ℕ → Terms → List Eq
paired zero ts = []
paired (suc n) none1 = []
paired (suc n) (and1 t none1) = []
paired (suc n) (and1 t (and1 u ts)) = record { left = t; right = u } ∷ paired n ts

-- the book that words say; for words that say none, some book
unfoldable pub book_of : List ℕ → Book
book_of s = record {
  parts = parts_of s;
  ranks = ranks_of s;
  eqs = paired (eqs_of s) (terms_of (read Small (parts_of s) (2 * eqs_of s + 2 * rules_of s) (drop (body_of s) s)));
  rules = paired (rules_of s)
      (others (2 * eqs_of s) (terms_of (read Small (parts_of s) (2 * eqs_of s + 2 * rules_of s) (drop (body_of s) s))));
}
