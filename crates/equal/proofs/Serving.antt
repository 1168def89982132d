-- Work words that a reducer leaves serve for the next comparison.
use Rattle.std.proofs.Common.{◌≡◌, List, ℕ, sym, subst}
use Rattle.books.specs.Books.{told}
use Rattle.order.specs.declared.terminating.Terminating.{Terminating}
use Rattle.engine.specs.declared.reducer.Reducer.{Reducer}
use Rattle.engine.specs.declared.work.Work.{Work}
use Rattle.engine.specs.Running.{Honest}
use Rattle.engine.specs.Reducers.{LeftIdle}
use Rattle.engine.proofs.Keeping.{honest_in}
use Rattle.equal.specs.Serving.{Serves, StillServes}

pub serves_on : (r s : Reducer) (v : Work) → LeftIdle r s → (r.work.ghost_name ≡ s.work.ghost_name → v ≡ s.work.now) →
    StillServes r.rules.now.book.words.now r.work.now v
serves_on r s v d same = subst (StillServes r.rules.now.book.words.now r.work.now) (sym (same (sym d.lent.lent))) (record {
  honest = subst (λ (t : Terminating). Honest (told t.book).rules s.work.now.store) d.lent.rules (honest_in s);
  idle = d.idle;
})

-- and so for another value of the book
pub serves_for : {s z : List ℕ} {w v : Work} → StillServes s w v → z ≡ s → Serves z v
serves_for {v = v} d same = subst (λ (s : List ℕ). Serves s v) (sym same) (record { honest = d.honest; none = d.idle.none })
