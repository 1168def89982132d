-- What the type of books whose rules go down keeps.
use Rattle.std.proofs.Common.{List}
use mathlib.Core.HLevel.{⊥_prop}
use mathlib.Core.Logic.{∥∥₁_elim}
use Rattle.rewriting.specs.Rules.{Eq}
use Rattle.rewriting.specs.Order.{Rank, rank, AllDown}
use Rattle.rewriting.proofs.Comparing.{dec_greater}
use Rattle.books.specs.Books.{told}
use Rattle.order.specs.declared.terminating.Terminating.{Terminating}

-- it can be decided, so the bare fact gives it back
pub down_again : (rk : Rank) (rs : List Eq) → ∥ AllDown rk rs ∥₁ → AllDown rk rs
down_again rk rs h i r e = elim (dec_greater rk r.left r.right) [
  | yes g ↦ g
  | no n ↦ absurd (∥∥₁_elim h ⊥_prop (λ d. n (d i r e)))
]

pub rules_down : (t : Terminating) → AllDown (rank (told t.book).ranks) (told t.book).rules
rules_down t = down_again (rank (told t.book).ranks) (told t.book).rules t.down
