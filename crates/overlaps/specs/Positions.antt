-- Where the parts of a term stand in its row, and where one rule's left side may be put on a part of another's.
use Rattle.std.specs.Prelude.{◌≡◌, ℕ, ◌+◌, ◌*◌, ◌<◌, ◌≤◌, List, ◌∷◌, ◌++◌, length, take, drop, ◌≢◌}
use Rattle.std.specs.Prelude.{Some, None, Option as Maybe}
use Rattle.rewriting.specs.Terms.{Term, sign, Terms, put, size}
use Rattle.rewriting.specs.Rules.{Part, renamed}
use Rattle.critical_pairs.specs.OverlapList.{index}
use Rattle.books.specs.declared.row.Book.{Book}
use Rattle.books.specs.declared.words.Symbol.TheVariants.{Sign}
use Rattle.books.specs.Reading.{SymbolAt}
use Rattle.books.specs.Books.{told, rule_in}
use Rattle.overlaps.specs.declared.types.Overlap.{Overlap}
use Rattle.overlaps.specs.declared.types.Row.{Row}

-- the words of a part
pub record At {v t : Term} (place : Part v t) (a z : ℕ) : Type 0 where
  pub from : a ≡ 2 * index place
  pub to : z ≡ a + 2 * size v

-- both words begin with the same sign
abbrev pub SameSign : List ℕ → List ℕ → Type 0
SameSign ws vs = (f : ℕ) × SymbolAt ws 0 (Some (Sign f)) × SymbolAt vs 0 (Some (Sign f))

-- two rules, and a part of the first's left side
pub record Stands (b : Book) (o : Overlap) : Type 0 where
  pub outer : o.outer < length (told b).rules
  pub inner : o.inner < length (told b).rules
  pub part : Term
  pub place : Part part (rule_in b o.outer).left
  pub at : At place o.from o.to

-- the overlap of rule j at symbol k of rule i's left side, where a sign stands; or none that stands there can be made one with rule j's
-- left side
pub record OverlapIs (b : Book) (i j k : ℕ) (o : Overlap) : Type 0 where
  pub outer : o.outer ≡ i
  pub inner : o.inner ≡ j
  pub stands : Stands b o
  pub symbol : index stands.place ≡ k
  pub is_sign : (f : ℕ) × (vs : Terms) × (stands.part ≡ sign f vs)
  pub each : (v : Term) (place : Part v (rule_in b o.outer).left) → index place ≡ k → At place o.from o.to

abbrev pub OverlapOrNone : Book → ℕ → ℕ → ℕ → Maybe Overlap → Type 0
OverlapOrNone b i j k (Some o) = OverlapIs b i j k o
OverlapOrNone b i j k None = (f : ℕ) (vs : Terms) (place : Part (sign f vs) (rule_in b i).left) → index place ≡ k →
    (s : ℕ → Term) → put s (sign f vs) ≢ put s (renamed (rule_in b j).left)

-- the words with letter 16, a hole, for those from one place up to another
abbrev pub holed : List ℕ → ℕ → ℕ → List ℕ
holed ws a z = take a ws ++ (0 ∷ 16 ∷ drop z ws)

-- the first words of r, as many as its length says, are those of the row with such a hole
pub record WithHole (ws : List ℕ) (a z : ℕ) (r : Row) : Type 0 where
  pub short : r.len ≤ length r.words
  pub is : take r.len r.words ≡ holed ws a z
