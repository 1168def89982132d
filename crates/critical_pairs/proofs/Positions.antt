-- Positions: the symbol where a part starts is one of the term's and tells the part, and the positions of signs are all listed, in order.
use Rattle.std.proofs.Common.{◌≡◌, ℕ, ◌+◌, ◌<◌, map, refl, ap, arith}
use Rattle.rewriting.specs.Terms.{Term, letter, sign, Terms, none1, and1, size, sizes}
use Rattle.rewriting.specs.Rules.{Part, itself, in_part, Parts, in_this, in_later}
use Rattle.rewriting.proofs.Glueing.{size_some}
use Rattle.rewriting.proofs.Members.{Mem, first, later, mem_left, mem_right}
use Rattle.critical_pairs.specs.OverlapList.{index, indexes, Position, PositionIn, under, at_head, at_tail, positions, positions_in}
use Rattle.critical_pairs.proofs.Lists.{mem_map, all_map, Ordered, ordered_append, ordered_map}

-- a part starts within the term
mutual
  pub index_low : {v t : Term} (p : Part v t) → index p < size t
  index_low {t = t} itself = omega (arith, size_some t)
  index_low (in_part p) = omega (arith, indexes_low p)

  pub indexes_low : {v : Term} {ts : Terms} (p : Parts v ts) → indexes p < sizes ts
  indexes_low (in_this p) = omega (arith, index_low p)
  indexes_low (in_later p) = omega (arith, indexes_low p)

-- any part of a term, with its position; of one of several terms
abbrev pub AnyPart : Term → Type 0
AnyPart t = (v : Term) × Part v t

abbrev pub AnyPartIn : Terms → Type 0
AnyPartIn ts = (v : Term) × Parts v ts

-- parts that start at the same symbol are one
mutual
  pub one_place : {v w t : Term} (p : Part v t) (q : Part w t) → index p ≡ index q → ◌≡◌ {A = AnyPart t} (v, p) (w, q)
  one_place itself itself e = refl
  one_place itself (in_part q) e = absurd (omega (arith, e))
  one_place (in_part p) itself e = absurd (omega (arith, e))
  one_place (in_part {f = f} {ts = ts} p) (in_part q) e =
      ap (λ (k : AnyPartIn ts). let r : AnyPart (sign f ts) = (k.0, in_part k.1) in r) (one_places p q (omega (arith, e)))

  one_places : {v w : Term} {ts : Terms} (p : Parts v ts) (q : Parts w ts) → indexes p ≡ indexes q → ◌≡◌ {A = AnyPartIn ts} (v, p) (w, q)
  one_places (in_this {t = t} {ts = ts} p) (in_this q) e =
      ap (λ (k : AnyPart t). let r : AnyPartIn (and1 t ts) = (k.0, in_this k.1) in r) (one_place p q e)
  one_places (in_this p) (in_later q) e = absurd (omega (arith, e, index_low p))
  one_places (in_later p) (in_this q) e = absurd (omega (arith, e, index_low q))
  one_places (in_later {t = t} {ts = ts} p) (in_later q) e =
      ap (λ (k : AnyPartIn ts). let r : AnyPartIn (and1 t ts) = (k.0, in_later k.1) in r) (one_places p q (omega (arith, e)))

-- each position is listed
module _ (f : ℕ) (vs : Terms) where
  mutual
    sign_listed : {t : Term} (p : Part (sign f vs) t) → Mem (record { f = f; vs = vs; stands = p }) (positions t)
    sign_listed itself = first
    sign_listed (in_part p) = later (mem_map under (sign_listed_in p))

    sign_listed_in : {ts : Terms} (p : Parts (sign f vs) ts) → Mem (record { f = f; vs = vs; stands = p }) (positions_in ts)
    sign_listed_in (in_this {ts = ts} p) = mem_left (map at_tail (positions_in ts)) (mem_map at_head (sign_listed p))
    sign_listed_in (in_later {t = t} p) = mem_right (map at_head (positions t)) (mem_map at_tail (sign_listed_in p))

pub position_listed : {t : Term} (a : Position t) → Mem a (positions t)
position_listed a = sign_listed a.f a.vs a.stands

-- from the top and the left
abbrev pub StartsBefore : {t : Term} → Position t → Position t → Type 0
StartsBefore a b = index a.stands < index b.stands

abbrev StartsBeforeIn : {ts : Terms} → PositionIn ts → PositionIn ts → Type 0
StartsBeforeIn a b = indexes a.stands < indexes b.stands

mutual
  pub positions_ordered : (t : Term) → Ordered (StartsBefore {t = t}) (positions t)
  positions_ordered (letter x) = tt
  positions_ordered (sign f ts) = (
    all_map under (λ (b : Position (sign f ts)). 0 < index b.stands) (positions_in ts) (λ a m. omega arith),
    ordered_map StartsBeforeIn StartsBefore under (λ a b l. omega (arith, l)) (positions_in ts) (positions_in_ordered ts),
  )

  positions_in_ordered : (ts : Terms) → Ordered (StartsBeforeIn {ts = ts}) (positions_in ts)
  positions_in_ordered none1 = tt
  positions_in_ordered (and1 t ts) = ordered_append StartsBeforeIn (map at_head (positions t)) (map at_tail (positions_in ts))
      (ordered_map StartsBefore StartsBeforeIn at_head (λ a b l. l) (positions t) (positions_ordered t))
      (ordered_map StartsBeforeIn StartsBeforeIn at_tail (λ a b l. omega (arith, l)) (positions_in ts) (positions_in_ordered ts))
      (λ a b m n. all_map at_tail (λ (c : PositionIn (and1 t ts)). indexes a.stands < indexes c.stands) (positions_in ts)
      (λ c l. first_low a m (indexes c.stands)) b n)
    where
      first_low : (a : PositionIn (and1 t ts)) → Mem a (map at_head (positions t)) → (k : ℕ) → indexes a.stands < size t + k
      first_low a m k = all_map at_head (λ (d : PositionIn (and1 t ts)). indexes d.stands < size t + k) (positions t)
          (λ d l. omega (arith, index_low d.stands)) a m
