-- One step by an equation: at the top, at the only part where two terms differ, or from a term to itself.
use Rattle.std.specs.Prelude.{◌≡◌, ℕ, ◌+◌, ◌-◌, ◌<◌, ◌≤◌, Bool, ◌⊎◌, List, length, Some, None, Option as Maybe, MatchOption, ◌≢◌}
use Rattle.std.proofs.Math.Option.{some}
use Rattle.rewriting.specs.Answers.{Tells}
use Rattle.rewriting.specs.Terms.{nth, Term, sign, Terms, and1, put, size, Fits}
use Rattle.rewriting.specs.Rules.{Eq, Part, Parts}
use Rattle.rewriting.specs.Ways.{One}
use Rattle.store.specs.declared.types.Store.{Store}
use Rattle.store.specs.declared.types.Roots.{Roots}
use Rattle.store.specs.declared.types.Place.{Place}
use Rattle.store.specs.Roots.{HasRoots}
use Rattle.store.specs.Stores.{term_in, arity_in, part_in, held, Inside}
use Rattle.store.specs.Transfers.{SymbolWritten, RootsBelow}
use Rattle.books.specs.declared.row.Book.{Book}
use Rattle.books.specs.Books.{told}

-- with something put for its letters, the two sides of e are t and u
abbrev pub SidesAre : Eq → Term → Term → Type 0
SidesAre e t u = (s : ℕ → Term) × (put s e.left ≡ t) × (put s e.right ≡ u)

-- an equation leads from t to u at the top, either way round
pub record Equated (es : List Eq) (t u : Term) : Type 0 where
  pub index : ℕ
  pub equation : Eq
  pub has : nth es index ≡ some equation
  pub sides : SidesAre equation t u ⊎ SidesAre equation u t

-- two lists of terms differ at one position only, where they have v and w
pub data DifferAt (v w : Term) : Terms → Terms → Type 0 where
  differ_first : {ts : Terms} → (v ≢ w) → DifferAt v w (and1 v ts) (and1 w ts)
  differ_later : {t : Term} {ts us : Terms} → DifferAt v w ts us → DifferAt v w (and1 t ts) (and1 t us)

-- an equation leads from a part of a term to itself; from a part of one of some terms
abbrev pub Itself : List Eq → Term → Type 0
Itself es t = (v : Term) × Part v t × Equated es v v

abbrev pub Itselves : List Eq → Terms → Type 0
Itselves es ts = (v : Term) × Parts v ts × Equated es v v

-- two places of the store whose terms are over the book's signature
pub record Comparable (k : Book) (st : Store) (p q : Place) : Type 0 where
  pub left : p.0 < st.count
  pub right : q.0 < st.count
  pub left_fits : Fits (told k).parts (term_in st p.0)
  pub right_fits : Fits (told k).parts (term_in st q.0)

-- of n parts each, from one on: the first that differ, or that none do
abbrev pub FirstDifference : Store → Place → Place → ℕ → ℕ → Maybe ℕ → Type 0
FirstDifference st p q n from1 r = MatchOption r ((j : ℕ) → from1 ≤ j → j < n → part_in st p.0 j ≡ part_in st q.0 j)
    (λ k. (from1 ≤ k) × (k < n) × (part_in st p.0 k ≢ part_in st q.0 k)
    × ((j : ℕ) → from1 ≤ j → j < k → part_in st p.0 j ≡ part_in st q.0 j))

-- the terms at p and q have one sign and differ in part k only
pub record DifferIn (st : Store) (p q : Place) (k : ℕ) : Type 0 where
  pub symbol : ℕ
  pub left_parts : Terms
  pub right_parts : Terms
  pub left : term_in st p.0 ≡ sign symbol left_parts
  pub right : term_in st q.0 ≡ sign symbol right_parts
  pub left_inside : k < arity_in st p.0
  pub right_inside : k < arity_in st q.0
  pub differ : DifferAt (term_in st (part_in st p.0 k)) (term_in st (part_in st q.0 k)) left_parts right_parts

-- that, or they have not one sign and one part in which they differ
abbrev pub OnlyDifference : Store → Place → Place → Maybe ℕ → Type 0
OnlyDifference st p q (Some k) = DifferIn st p q k
OnlyDifference st p q None = (f : ℕ) (ts us : Terms) (v w : Term) →
    term_in st p.0 ≡ sign f ts → term_in st q.0 ≡ sign f us → DifferAt v w ts us → ⊥

-- the uppermost root gave way to its parts, and those below it are as they were
pub record Expanded (st : Store) (q r : Roots) : Type 0 where
  pub written : SymbolWritten st q r
  pub below : RootsBelow (q.top - 1) q r

-- the term of the uppermost root is over the signature, and there are cells for as many roots as it has letters and signs
pub record Walkable (k : Book) (st : Store) (q : Roots) : Type 0 where
  pub inside : Inside st q
  pub some : 0 < q.top
  pub fits : Fits (told k).parts (held st q (q.top - 1))
  pub cells : HasRoots q.cells.now (q.top - 1 + size (held st q (q.top - 1)))

-- whether one step leads from it to itself, and the roots below it
pub record Walked (k : Book) (st : Store) (q r : Roots) (x : Bool) : Type 0 where
  pub result : Tells x (One (told k).eqs (held st q (q.top - 1)) (held st q (q.top - 1)))
  pub top : r.top ≡ q.top - 1
  pub below : RootsBelow (q.top - 1) q r

-- two roots whose terms are over the signature, and cells for as many roots as the second has letters and signs
pub record TwoTerms (k : Book) (st : Store) (q : Roots) : Type 0 where
  pub inside : Inside st q
  pub two : q.top ≡ 2
  pub first : Fits (told k).parts (held st q 0)
  pub second : Fits (told k).parts (held st q 1)
  pub cells : HasRoots q.cells.now (1 + size (held st q 1))

-- whether one step leads from the first to the second, which is the only root then
pub record StepTold (k : Book) (st : Store) (q r : Roots) (x : Bool) : Type 0 where
  pub result : Tells x (One (told k).eqs (held st q 0) (held st q 1))
  pub top : r.top ≡ 1
  pub long : length r.cells.now ≡ length q.cells.now
  pub inside : Inside st r
  pub term : held st r 0 ≡ held st q 1
