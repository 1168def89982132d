-- The theorems, as types. Each is the contract of a function of this crate.
use Rattle.std.specs.Prelude.{◌≡◌, ◌⊎◌, ◌↔◌, List, ℕ, ◌<◌}
use Rattle.rewriting.specs.Terms.{Term, letter, put, Fits}
use Rattle.rewriting.specs.Rules.{Eq, Equal, Step, Steps, Done, Meet, Ends, Part}
use Rattle.rewriting.specs.Order.{Rank, rank, Greater, AllDown, Grounded}
use Rattle.rewriting.specs.Overlaps.{fill, Least, Peak, OverlapsMeet}
use Rattle.rewriting.specs.Books.{Book, Fine, OneEnd, NoMore, NoLess}

-- the order has no endless way down among terms over a signature, with any letters (it is well-founded there)
abbrev pub OrderEnds : Type 0
OrderEnds = (rk : Rank) (ps : List ℕ) (t : Term) → Fits ps t → Grounded rk ps t

-- the order is kept by replacing letters (closed under substitutions) and in places (closed under contexts)
pub record OrderKept : Type 0 where
  pub putting : (rk : Rank) (s : ℕ → Term) (t u : Term) → Greater rk t u → Greater rk (put s t) (put s u)
  pub placing : (rk : Rank) (t v w : Term) (p : Part v t) → Greater rk v w → Greater rk t (fill p letter w)
  pub stepping : (rk : Rank) (rs : List Eq) → AllDown rk rs → (t u : Term) → Step rs t u → Greater rk t u

-- what goes down ends (termination): if all rules go down, no term of the book's signs has endless steps
abbrev pub DownEnds : Type 0
DownEnds = (b : Book) → Fine b → AllDown (rank b.ranks) b.rules → (t : Term) → Fits b.parts t → Ends b.rules t

-- a number for each term that every step makes smaller (the derivation height)
abbrev pub Falls : (Book → Term → ℕ) → Type 0
Falls height = (b : Book) → Fine b → AllDown (rank b.ranks) b.rules →
    (t u : Term) → Fits b.parts t → Step b.rules t u → height b u < height b t

abbrev pub Heights : Type 0
Heights = (height : Book → Term → ℕ) × Falls height

-- two terms are made one by a least replacement, or by none (unification)
abbrev pub MadeOne : Type 0
MadeOne = (a b : Term) → Least a b ⊎ ((r : ℕ → Term) → put r a ≡ put r b → ⊥)

-- one end, told by the two results at each place where two rules meet (the critical pair theorem)
abbrev pub OverlapsTell : Type 0
OverlapsTell = (b : Book) → Fine b → AllDown (rank b.ranks) b.rules → OverlapsMeet b.rules → OneEnd b

-- the weaker theorem, which asks it of all pairs of steps from such a place
abbrev pub PeaksTell : Type 0
PeaksTell = (b : Book) → Fine b → AllDown (rank b.ranks) b.rules →
    ((t u v : Term) → Peak b.rules t → Step b.rules t u → Step b.rules t v → Meet b.rules u v) → OneEnd b

-- so it can be told by finitely many pairs
abbrev pub ToldByPairs : Type 0
ToldByPairs = (b : Book) → Fine b → AllDown (rank b.ranks) b.rules → OneEnd b ⊎ (OneEnd b → ⊥)

-- the main theorem: in a book that settles its equations, terms are equal by the equations exactly if they come to one term;
-- each term comes to one at which nothing can be done, and to one only
pub record IsSettled (b : Book) : Type 0 where
  pub equal : (t u : Term) → Fits b.parts t → Fits b.parts u → Equal b.eqs t u ↔ Meet b.rules t u
  pub comes : (t : Term) → Fits b.parts t → (n : Term) × Steps b.rules t n × Done b.rules n
  pub one : (t m n : Term) → Fits b.parts t →
      Steps b.rules t m → Done b.rules m → Steps b.rules t n → Done b.rules n → m ≡ n

abbrev pub Settled : Type 0
Settled = (b : Book) → Fine b → AllDown (rank b.ranks) b.rules → OneEnd b → NoLess b → NoMore b → IsSettled b
