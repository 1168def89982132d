-- What one overlap tells, and what all of them do.
use Rattle.std.specs.Prelude.{◌≡◌, ℕ, Bool, true, false, List, ◌∷◌, ◌++◌, Ok, Err, Result}
use Rattle.rewriting.specs.Terms.{sign}
use Rattle.rewriting.specs.Rules.{renamed}
use Rattle.rewriting.specs.Overlaps.{Least}
use Rattle.critical_pairs.specs.OverlapList.{Overlap, overlaps, symbol, Listed, first_of, second_of}
use Rattle.critical_pairs.specs.OverlapList.{Resolved, AllResolved, ResolvedAt}
use Rattle.books.specs.declared.row.Book.{Book}
use Rattle.books.specs.Books.{told, rule_in}
use Rattle.engine.specs.declared.types.NoRoom.{NoRoom}
use Rattle.engine.specs.Meeting.{Compares}

-- rule j at symbol k of rule i's left side: whatever makes the sign there and the other left side one, both results come together
abbrev pub Joined : Book → ℕ → ℕ → ℕ → Type 0
Joined b i j k = ResolvedAt (told b).rules (rule_in b i) (rule_in b j) k

-- the two results of an overlap, with the least replacement, are found to be x: to come to different normal forms, or to lead to a term of
-- more than n different parts
pub record ResultsCompared (b : Book) (n : ℕ) (o : Overlap) (x : Result Bool NoRoom) : Type 0 where
  pub least : Least (sign o.at.f o.at.vs) (renamed o.q.left)
  pub compared : Compares b n (first_of o least.s) (second_of o least.s) x

-- the overlap of rule j at symbol k of rule i's left side, whose results are found to be x
pub record Failing (b : Book) (n i j k : ℕ) (x : Result Bool NoRoom) : Type 0 where
  pub overlap : Overlap
  pub listed : Listed overlap (overlaps (told b).rules)
  pub outer : overlap.i ≡ i
  pub inner : overlap.j ≡ j
  pub symbol : symbol overlap ≡ k
  pub results : ResultsCompared b n overlap x

abbrev pub OverlapSays : Book → ℕ → ℕ → ℕ → ℕ → Result Bool NoRoom → Type 0
OverlapSays b n i j k (Ok true) = Joined b i j k
OverlapSays b n i j k (Ok false) = Failing b n i j k (Ok false)
OverlapSays b n i j k (Err e) = Failing b n i j k (Err e)

-- the first overlap of the list of which that is found: those before it are resolved. It may be resolved itself by other steps, since without
-- one end a term can have several normal forms; but then the book has not one end all the same
pub record FirstFailing (b : Book) (n : ℕ) (x : Result Bool NoRoom) : Type 0 where
  pub before : List Overlap
  pub overlap : Overlap
  pub behind : List Overlap
  pub all : overlaps (told b).rules ≡ before ++ (overlap ∷ behind)
  pub resolved : (o : Overlap) → Listed o before → Resolved (told b).rules o
  pub results : ResultsCompared b n overlap x

-- all overlaps of the list are resolved; or, up to the first whose results come to different normal forms; or, up to the first of which it
-- can't be told, since they lead to a term that is too large
abbrev pub OneEndSays : Book → ℕ → Result Bool NoRoom → Type 0
OneEndSays b n (Ok true) = AllResolved (told b).rules
OneEndSays b n (Ok false) = FirstFailing b n (Ok false)
OneEndSays b n (Err e) = FirstFailing b n (Err e)
