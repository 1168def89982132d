-- A worked example: sums of numbers that are written with zero and next.
use Rattle.std.specs.Prelude.{List, [], ◌∷◌}
use Rattle.rewriting.specs.Terms.{Term, letter, sign, none1, and1}
use Rattle.rewriting.specs.Rules.{Eq, Step}
use Rattle.rewriting.specs.Order.{rank, AllDown}

abbrev pub zero : Term
zero = sign 0 none1

abbrev pub next : Term → Term
next t = sign 1 (and1 t none1)

abbrev pub plus : Term → Term → Term
plus t u = sign 2 (and1 t (and1 u none1))

abbrev pub sum_rules : List Eq
sum_rules = record { left = plus zero (letter 0); right = letter 0 }
    ∷ record { left = plus (next (letter 0)) (letter 1); right = next (plus (letter 0) (letter 1)) } ∷ []

-- both rules go down with ranks zero < next < plus, and 1 and 1 come to 2 in two steps
pub record SumsWorked : Type 0 where
  pub down : AllDown (rank (0 ∷ 1 ∷ 2 ∷ [])) sum_rules
  pub first_step : Step sum_rules (plus (next zero) (next zero)) (next (plus zero (next zero)))
  pub second_step : Step sum_rules (next (plus zero (next zero))) (next (next zero))
