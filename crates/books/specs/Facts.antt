-- Facts that have one proof at most, as a ghost field needs it: words read as a book, sides laid out in them, and an index of rules.
use Rattle.std.specs.Prelude.{ℕ, List, Some, None, Option as Maybe}
use Rattle.std.specs.Coded.{Unit-prop}
use Rattle.std.proofs.Props.{props}
use Rattle.rewriting.specs.Terms.{Term, letter, sign, Terms, none1, and1, Over, AllOver, SmallLetter}
use Rattle.rewriting.specs.Books.{Book}
use Rattle.books.specs.Rows.{Reads}
use Rattle.books.specs.Layouts.{Laid}
use Rattle.books.specs.Indexing.{FirstFrom, RulesIndexed}
use Rattle.books.specs.declared.layout.Layout.{Layout}
use Rattle.books.specs.declared.index.Index.{Index}

mutual
  over-prop : (ps : List ℕ) (t : Term) → IsProp (Over SmallLetter ps t)
  over-prop ps (letter x) = Prim.hlevel props
  over-prop ps (sign f ts) = Prim.hlevel (all-prop ps ts, props)

  all-prop : (ps : List ℕ) (ts : Terms) → IsProp (AllOver SmallLetter ps ts)
  all-prop ps none1 = Unit-prop
  all-prop ps (and1 t ts) = Prim.hlevel (over-prop ps t, all-prop ps ts)

pub Reads-prop : (s : List ℕ) (b : Book) → IsProp (Reads s b)
Reads-prop s b = Prim.hlevel (over-prop, props)

pub Laid-prop : (s : List ℕ) (b : Book) (l : Layout) → IsProp (Laid s b l)
Laid-prop s b l = Prim.hlevel props

first-prop : (t : ℕ → ℕ) (n a f : ℕ) (o : Maybe ℕ) → IsProp (FirstFrom t n a f o)
first-prop t n a f (Some i) = Prim.hlevel props
first-prop t n a f None = Prim.hlevel props

pub RulesIndexed-prop : (b : Book) (x : Index) → IsProp (RulesIndexed b x)
RulesIndexed-prop b x = Prim.hlevel first-prop
