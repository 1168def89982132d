-- Places where two rules meet (overlaps), with the least replacement (most general unifier), and the two results there.
use Rattle.std.specs.Prelude.{◌≡◌, List, ℕ}
use Rattle.std.proofs.Math.Option.{some}
use Rattle.rewriting.specs.Terms.{nth, Term, sign, Terms, and1, put, puts}
use Rattle.rewriting.specs.Rules.{Eq, Part, itself, in_part, Parts, in_this, in_later, renamed, Meet}

-- a term with w in place of one of its parts, and s put for the letters of all the rest
abbrev mutual
  pub fill : {v t : Term} → Part v t → (ℕ → Term) → Term → Term
  fill itself s w = w
  fill (in_part {f = f} p) s w = sign f (fills p s w)

  pub fills : {v : Term} {ts : Terms} → Parts v ts → (ℕ → Term) → Term → Terms
  fills (in_this {ts = ts} p) s w = and1 (fill p s w) (puts s ts)
  fills (in_later {t = t} p) s w = and1 (put s t) (fills p s w)

-- the least replacement that makes two terms one (a most general unifier, idempotent): any other that does is had from it
pub record Least (a b : Term) : Type 0 where
  pub s : ℕ → Term
  pub one : put s a ≡ put s b
  pub most : (r : ℕ → Term) → put r a ≡ put r b → (x : ℕ) → r x ≡ put r (s x)

-- a term at which two rules meet (a critical peak): rule j's left side, its letters renamed, put on a part of rule i's left
-- side that isn't a letter, with the least for letters that makes them one
pub record Peak (rs : List Eq) (t : Term) : Type 0 where
  pub i : ℕ
  pub j : ℕ
  pub p : Eq
  pub q : Eq
  pub is_p : nth rs i ≡ some p
  pub is_q : nth rs j ≡ some q
  pub f : ℕ
  pub vs : Terms
  pub stands : Part (sign f vs) p.left
  pub s : ℕ → Term
  pub meet : put s (sign f vs) ≡ put s (renamed q.left)
  pub most : (r : ℕ → Term) → put r (sign f vs) ≡ put r (renamed q.left) → (k : ℕ → Term) × ((x : ℕ) → r x ≡ put k (s x))
  pub is : t ≡ put s p.left

-- its two results (the critical pair): by rule i at the top, and by rule j at the place
abbrev pub first_result : {rs : List Eq} {t : Term} → Peak rs t → Term
first_result k = put k.s k.p.right

abbrev pub second_result : {rs : List Eq} {t : Term} → Peak rs t → Term
second_result k = fill k.stands k.s (put k.s (renamed k.q.right))

-- at each place where two rules meet both results come together
abbrev pub OverlapsMeet : List Eq → Type 0
OverlapsMeet rs = (t : Term) (k : Peak rs t) → Meet rs (first_result k) (second_result k)
