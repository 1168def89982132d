-- Rows: how terms, books and ways are written as lists of 32-bit words.
use Rattle.std.specs.Prelude.{◌≡◌, ℕ, List, [], ◌∷◌, ◌++◌, length}
use Rattle.rewriting.specs.Terms.{Term, letter, sign, Terms, none1, and1, Ok, Fits}
use Rattle.rewriting.specs.Rules.{Eq}
use Rattle.rewriting.specs.Books.{Book, Fine}

-- a letter is 0 and its number; a sign is 1, its number, and then its parts
abbrev mutual
  pub row : Term → List ℕ
  row (letter x) = 0 ∷ x ∷ []
  row (sign f ts) = 1 ∷ f ∷ rows ts

  pub rows : Terms → List ℕ
  rows none1 = []
  rows (and1 t ts) = row t ++ rows ts

-- equations or rules, each by its left and its right side
abbrev pub rowEs : List Eq → List ℕ
rowEs [] = []
rowEs (e ∷ es) = row e.left ++ (row e.right ++ rowEs es)

-- a book: the number of signs, the parts of each, the rank of each, the number of equations, of rules, and then these
abbrev pub rowB : Book → List ℕ
rowB b = length b.parts ∷ (b.parts ++ (b.ranks ++
    (length b.eqs ∷ length b.rules ∷ (rowEs b.eqs ++ rowEs b.rules))))

-- ways: for each rule how many terms, and these
abbrev pub rowTerms : List Term → List ℕ
rowTerms [] = []
rowTerms (t ∷ ts) = row t ++ rowTerms ts

abbrev pub rowWays : List (List Term) → List ℕ
rowWays [] = []
rowWays (w ∷ ws) = length w ∷ (rowTerms w ++ rowWays ws)

-- the words s are the row of a book
pub record Reads (s : List ℕ) (b : Book) : Type 0 where
  pub is : rowB b ≡ s
  pub fine : Fine b

-- the words a are the row of a term over the signature, with letters below 16
pub record Of (ps : List ℕ) (a : List ℕ) (t : Term) : Type 0 where
  pub written : row t ≡ a
  pub fits : Ok ps t

-- each of some terms is over the signature, with any letters; and so for lists of them
abbrev pub AllFit : List ℕ → List Term → Type 0
AllFit ps [] = Unit {0}
AllFit ps (t ∷ ts) = Fits ps t × AllFit ps ts

abbrev pub WaysFit : List ℕ → List (List Term) → Type 0
WaysFit ps [] = Unit {0}
WaysFit ps (w ∷ ws) = AllFit ps w × WaysFit ps ws

-- the words h are the row of n ways of terms over the signature, with any letters
pub record WaysRow (ps : List ℕ) (n : ℕ) (h : List ℕ) (ws : List (List Term)) : Type 0 where
  pub written : rowWays ws ≡ h
  pub each : length ws ≡ n
  pub fit : WaysFit ps ws

-- the words say some ways
abbrev pub SomeWays : List ℕ → ℕ → List ℕ → Type 0
SomeWays ps n h = (ws : List (List Term)) × WaysRow ps n h ws
