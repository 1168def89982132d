-- The worked example: both rules go down, and 1 and 1 come to 2.
use mathlib.Core.Path.{refl}
use mathlib.Core.List.{[], ◌∷◌}
use Prim.Native.Nat.{ℕ, suc}
use native.Mathlib.Omega.{arith}
use Rattle.rewriting.specs.Terms.{Term, letter}
use Rattle.rewriting.specs.Rules.{Eq, at_top, below, in_first}
use Rattle.rewriting.specs.Order.{rank, AllDown, Greater, by_part, by_sign, by_order}
use Rattle.rewriting.specs.Order.{this_is, this_more, later, none_there, this_less, here}
use Rattle.rewriting.specs.Sums.{zero as zero_sign, next, plus, sum_rules, SumsWorked}
use Rattle.rewriting.proofs.Choosing.{each_none, each_cons}

abbrev zero_rule : Eq
zero_rule = record { left = plus zero_sign (letter 0); right = letter 0 }

abbrev next_rule : Eq
next_rule = record { left = plus (next (letter 0)) (letter 1); right = next (plus (letter 0) (letter 1)) }

abbrev Falls : Eq → Type 0
Falls r = Greater (rank (0 ∷ 1 ∷ 2 ∷ [])) r.left r.right

down : AllDown (rank (0 ∷ 1 ∷ 2 ∷ [])) sum_rules
down = each_cons Falls zero_rule (next_rule ∷ []) (by_part (later this_is)) (each_cons Falls next_rule []
    (by_sign (omega arith) (this_less (by_order (here (by_part this_is))
    (this_less (by_part (this_more (by_part this_is))) (this_less (by_part (later this_is)) none_there))) none_there))
    (each_none Falls))

-- 0 for the first letter, 1 for the others
abbrev zero_one : ℕ → Term
zero_one Prim.Native.Nat.zero = zero_sign
zero_one (suc n) = next zero_sign

pub sums_worked_lem : SumsWorked
sums_worked_lem = record {
  down = down;
  first_step = at_top 1 next_rule zero_one refl;
  second_step = below (in_first (at_top 0 zero_rule (λ x. next zero_sign) refl));
}
