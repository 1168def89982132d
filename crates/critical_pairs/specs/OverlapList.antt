-- The overlaps of a list of rules as a list: rule i, rule j, and a position in rule i's left side that isn't a letter's.
use Rattle.std.specs.Prelude.{◌≡◌, ◌⊎◌, List, [], ◌∷◌, ◌++◌, ℕ, suc, ◌+◌, ◌<◌, map}
use Rattle.std.specs.List.{flat_map}
use Rattle.rewriting.specs.Terms.{Term, letter, sign, Terms, none1, and1, put, size}
use Rattle.rewriting.specs.Rules.{Eq, Meet, Part, itself, in_part, Parts, in_this, in_later, renamed}
use Rattle.rewriting.specs.Overlaps.{fill}

-- the number of the symbol where a part starts, counted from the top and the left; the top has 0
abbrev mutual
  pub index : {v t : Term} → Part v t → ℕ
  index itself = 0
  index (in_part p) = 1 + indexes p

  pub indexes : {v : Term} {ts : Terms} → Parts v ts → ℕ
  indexes (in_this p) = index p
  indexes (in_later {t = t} p) = size t + indexes p

-- a position in a term at which a sign stands; in one of several terms
pub record Position (t : Term) : Type 0 where
  pub f : ℕ
  pub vs : Terms
  pub stands : Part (sign f vs) t

pub record PositionIn (ts : Terms) : Type 0 where
  pub f : ℕ
  pub vs : Terms
  pub stands : Parts (sign f vs) ts

abbrev pub under : {f : ℕ} {ts : Terms} → PositionIn ts → Position (sign f ts)
under a = record { f = a.f; vs = a.vs; stands = in_part a.stands }

abbrev pub at_head : {t : Term} {ts : Terms} → Position t → PositionIn (and1 t ts)
at_head a = record { f = a.f; vs = a.vs; stands = in_this a.stands }

abbrev pub at_tail : {t : Term} {ts : Terms} → PositionIn ts → PositionIn (and1 t ts)
at_tail a = record { f = a.f; vs = a.vs; stands = in_later a.stands }

-- all of them, from the top and the left
abbrev mutual
  pub positions : (t : Term) → List (Position t)
  positions (letter x) = []
  positions (sign f ts) = record { f = f; vs = ts; stands = itself } ∷ map under (positions_in ts)

  pub positions_in : (ts : Terms) → List (PositionIn ts)
  positions_in none1 = []
  positions_in (and1 t ts) = map at_head (positions t) ++ map at_tail (positions_in ts)

-- rule p, which is rule i, and rule q, which is rule j, whose left side is put on the part at a position of p's left side. (The crate
-- `overlaps` calls so the numbers by which its code finds one.)
pub record Overlap : Type 0 where
  pub i : ℕ
  pub j : ℕ
  pub p : Eq
  pub q : Eq
  pub at : Position p.left

-- the symbol of p's left side where the part starts
abbrev pub symbol : Overlap → ℕ
symbol o = index o.at.stands

-- rules with their numbers
pub record Numbered : Type 0 where
  pub number : ℕ
  pub rule : Eq

abbrev pub next_number : Numbered → Numbered
next_number n = record { number = suc n.number; rule = n.rule }

abbrev pub numbered : List Eq → List Numbered
numbered [] = []
numbered (r ∷ rs) = record { number = 0; rule = r } ∷ map next_number (numbered rs)

-- all overlaps of two rules, and all of a list of rules: by i, by j, and by the position. A rule may be put on itself, at the top too
abbrev pub overlaps_of : Numbered → Numbered → List Overlap
overlaps_of m n = map (λ (a : Position m.rule.left). record { i = m.number; j = n.number; p = m.rule; q = n.rule; at = a })
    (positions m.rule.left)

abbrev pub overlaps : List Eq → List Overlap
overlaps rs = flat_map (λ (m : Numbered). flat_map (overlaps_of m) (numbered rs)) (numbered rs)

-- o is one of a list
pub data Listed (o : Overlap) : List Overlap → Type 0 where
  this_one : {os : List Overlap} → Listed o (o ∷ os)
  later_one : {p : Overlap} {os : List Overlap} → Listed o os → Listed o (p ∷ os)

-- o comes before p
abbrev pub Before : Overlap → Overlap → Type 0
Before o p = (o.i < p.i) ⊎ ((o.i ≡ p.i) × ((o.j < p.j) ⊎ ((o.j ≡ p.j) × (symbol o < symbol p))))

abbrev pub Sorted : List Overlap → Type 0
Sorted [] = Unit {0}
Sorted (o ∷ os) = ((p : Overlap) → Listed p os → Before o p) × Sorted os

-- s makes the part and q's left side, its letters renamed, one; and any replacement that does is had from it (a most general unifier)
pub record MostGeneral (o : Overlap) (s : ℕ → Term) : Type 0 where
  pub one : put s (sign o.at.f o.at.vs) ≡ put s (renamed o.q.left)
  pub most : (r : ℕ → Term) → put r (sign o.at.f o.at.vs) ≡ put r (renamed o.q.left) →
      (k : ℕ → Term) × ((x : ℕ) → r x ≡ put k (s x))

-- nothing makes them one
abbrev pub NeverOne : Overlap → Type 0
NeverOne o = (s : ℕ → Term) → put s (sign o.at.f o.at.vs) ≡ put s (renamed o.q.left) → ⊥

-- the term at which both rules can be used, with s put for letters, and its two results: by p at the top, and by q at the position
abbrev pub top_term : Overlap → (ℕ → Term) → Term
top_term o s = put s o.p.left

abbrev pub first_of : Overlap → (ℕ → Term) → Term
first_of o s = put s o.p.right

abbrev pub second_of : Overlap → (ℕ → Term) → Term
second_of o s = fill o.at.stands s (put s (renamed o.q.right))

-- nothing makes the two one, or for some most general replacement both results come together (the critical pair is joinable)
abbrev pub Resolved : List Eq → Overlap → Type 0
Resolved rs o = NeverOne o ⊎ ((s : ℕ → Term) × MostGeneral o s × Meet rs (first_of o s) (second_of o s))

abbrev pub AllResolved : List Eq → Type 0
AllResolved rs = (o : Overlap) → Listed o (overlaps rs) → Resolved rs o

-- the same by numbers: at symbol k of p's left side, whatever makes the part and q's left side one, both results come together
abbrev pub ResolvedAt : List Eq → Eq → Eq → ℕ → Type 0
ResolvedAt rs p q k = (f : ℕ) (vs : Terms) (place : Part (sign f vs) p.left) → index place ≡ k →
    (s : ℕ → Term) → put s (sign f vs) ≡ put s (renamed q.left) → Meet rs (put s p.right) (fill place s (put s (renamed q.right)))
