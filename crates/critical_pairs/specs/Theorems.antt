-- The theorems, as types. Each is the contract of a function of this crate.
use Rattle.std.specs.Prelude.{◌≡◌, ◌↔◌, List, ℕ}
use Rattle.std.proofs.Math.Option.{some}
use Rattle.rewriting.specs.Terms.{nth, Term, sign}
use Rattle.rewriting.specs.Rules.{Eq, Meet, renamed}
use Rattle.rewriting.specs.Order.{rank, AllDown}
use Rattle.rewriting.specs.Overlaps.{Least}
use Rattle.rewriting.specs.Books.{Book, Fine, OneEnd}
use Rattle.critical_pairs.specs.OverlapList.{Position, Overlap, overlaps, symbol, Listed, Sorted, MostGeneral, first_of, second_of}
use Rattle.critical_pairs.specs.OverlapList.{Resolved, AllResolved, ResolvedAt}
use Rattle.critical_pairs.specs.Renaming.{Alike}

-- the list has an overlap for any two rules and each position of the first one's left side at which a sign stands, and no others; it is
-- in order, so each is there once; and its numbers tell an overlap
pub record OverlapsListed : Type 0 where
  pub all : (rs : List Eq) (i j : ℕ) (p q : Eq) → nth rs i ≡ some p → nth rs j ≡ some q → (a : Position p.left) →
      Listed (record { i = i; j = j; p = p; q = q; at = a }) (overlaps rs)
  pub only : (rs : List Eq) (o : Overlap) → Listed o (overlaps rs) → (nth rs o.i ≡ some o.p) × (nth rs o.j ≡ some o.q)
  pub sorted : (rs : List Eq) → Sorted (overlaps rs)
  pub one : (rs : List Eq) (o p : Overlap) → Listed o (overlaps rs) → Listed p (overlaps rs) →
      o.i ≡ p.i → o.j ≡ p.j → symbol o ≡ symbol p → o ≡ p

-- one end is told by finitely many pairs of terms: by the two results at each overlap of the list, for some most general replacement
abbrev pub FinitelyManyPairs : Type 0
FinitelyManyPairs = (b : Book) → Fine b → AllDown (rank b.ranks) b.rules → OneEnd b ↔ AllResolved b.rules

-- which one is taken does not matter: they are the same up to names of letters, and both results come together with all or with none
pub record MostGeneralAlike : Type 0 where
  pub least : (a b : Term) (l m : Least a b) → Alike l.s m.s
  pub general : (o : Overlap) (s r : ℕ → Term) → MostGeneral o s → MostGeneral o r → Alike s r
  pub meet : (rs : List Eq) (o : Overlap) (s r : ℕ → Term) → MostGeneral o s → MostGeneral o r →
      Meet rs (first_of o s) (second_of o s) → Meet rs (first_of o r) (second_of o r)
  pub least_general : (o : Overlap) (l : Least (sign o.at.f o.at.vs) (renamed o.q.left)) → MostGeneral o l.s

-- an overlap is resolved exactly if, whatever makes the part and the left side one, both results come together
abbrev pub ResolvedByAny : Type 0
ResolvedByAny = (rs : List Eq) (o : Overlap) → Resolved rs o ↔ ResolvedAt rs o.p o.q (symbol o)
