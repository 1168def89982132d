-- What the type of reducers keeps: the rules go down, and what the store notes is true by them.
use Rattle.std.proofs.Common.{ℕ, ◌≤◌, List, ◌∙◌, arith}
use mathlib.Core.HLevel.{⊥_prop, Π_prop}
use mathlib.Core.Logic.{∥∥₁_elim, ∥∥₁_map}
use native.Mathlib.Decide.{dec_le}
use Rattle.rewriting.specs.Terms.{Term}
use Rattle.rewriting.specs.Rules.{Eq, Done}
use Rattle.rewriting.specs.Order.{rank, AllDown}
use Rattle.rewriting.proofs.Stepping.{NoNewLetters}
use Rattle.rewriting.proofs.Terminating.{down_letters}
use Rattle.rewriting.proofs.Reaching.{steps_again}
use Rattle.store.specs.declared.types.Store.{Store}
use Rattle.books.specs.Books.{told}
use Rattle.order.proofs.Descent.{rules_down}
use Rattle.engine.specs.declared.reducer.Reducer.{Reducer}
use Rattle.engine.specs.Running.{Honest}
use Rattle.engine.specs.declared.work.Work.{Work}
use Rattle.engine.specs.Meeting.{Ample}
use Rattle.engine.specs.Reducers.{Lent, Idle, LeftIdle}

-- the bare fact gives back what the store notes
module _ (rs : List Eq) (keep : NoNewLetters rs) (st : Store) (h : ∥ Honest rs st ∥₁) where
  done_again : (t : Term) → (Honest rs st → Done rs t) → Done rs t
  done_again t f = ∥∥₁_elim h (Π_prop λ _. Π_prop λ _. ⊥_prop) f

  le_again : (m n : ℕ) → (Honest rs st → m ≤ n) → m ≤ n
  le_again m n f = elim (dec_le m n) [
    | yes l ↦ l
    | no k ↦ absurd (∥∥₁_elim h ⊥_prop (λ x. k (f x)))
  ]

  pub honest_again : Honest rs st
  honest_again = record {
    flags = λ i l e. done_again _ (λ x. x.flags i l e);
    inside = λ i l e. le_again _ _ (λ x. x.inside i l e);
    steps = λ i l e. steps_again rs keep (∥∥₁_map h (λ x. x.steps i l e));
    done = λ i l e. done_again _ (λ x. x.done i l e);
  }

module _ (r : Reducer) where
  pub down_in : AllDown (rank (told r.rules.now.book).ranks) (told r.rules.now.book).rules
  down_in = rules_down r.rules.now

  pub honest_in : Honest (told r.rules.now.book).rules r.work.now.store
  honest_in =
      let b = told r.rules.now.book in
      honest_again b.rules (down_letters (rank b.ranks) b.rules down_in) r.work.now.store r.honest

-- one piece of work after another
pub lent_then : {r s t : Reducer} → Lent r s → Lent s t → Lent r t
lent_then d e = record { rules = e.rules ∙ d.rules; lent = e.lent ∙ d.lent }

pub idle_on : {u v w : Work} → Idle u v → Idle v w → Idle u w
idle_on d e = record {
  room = e.room ∙ d.room;
  cells = e.cells ∙ d.cells;
  words = e.words ∙ d.words;
  frames = λ f. e.frames (d.frames f);
  none = e.none;
}

pub idle_then : {r s t : Reducer} → LeftIdle r s → LeftIdle s t → LeftIdle r t
idle_then d e = record { lent = lent_then d.lent e.lent; idle = idle_on d.idle e.idle }

-- there is as much room as before
pub ample_still : {w v : Work} {n : ℕ} → Idle w v → Ample n w → Ample n v
ample_still d a = record {
  slots = omega (arith, a.slots, d.room);
  cells = omega (arith, a.cells, d.cells);
  words = omega (arith, a.words, d.words);
}
