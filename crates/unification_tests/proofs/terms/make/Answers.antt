-- One part more.
use Rattle.std.proofs.Common.{ℕ, ◌≡◌, ◌≢◌, ◌+◌, ◌<◌, List, length, get_or, set, sym, subst, arith, get_or-set_other, get_or-set_same}
use Rattle.std.proofs.Common.{length-set}
use native.Mathlib.Decide.{dec_lt}
use Rattle.store.specs.declared.types.Place.{Place}
use Rattle.unification_tests.proofs.terms.make.Goals as goal

-- one more place below c behind n of them
below_more : (ps : List Place) (n c : ℕ) (q : Place) → n < length ps → ((j : ℕ) → j < n → (get_or ps j (record { 0 = 0 })).0 < c) →
    q.0 < c → (j : ℕ) → j < n + 1 → (get_or (set ps n q) j (record { 0 = 0 })).0 < c
below_more ps n c q h old new j l = aux (dec_lt j n)
  where
    aux : Dec (j < n) → (get_or (set ps n q) j (record { 0 = 0 })).0 < c
    aux (yes k) = let ne : j ≢ n = omega arith in rw (get_or-set_other ps n j q (record { 0 = 0 }) ne) (old j k)
    aux (no m) =
        let e : j ≡ n = omega arith in
        subst (λ (i : ℕ). (get_or (set ps n q) i (record { 0 = 0 })).0 < c) (sym e)
        (rw (get_or-set_same ps n q (record { 0 = 0 }) h) new)

pub loop-k-preserved : goal.loop-k-preserved
loop-k-preserved c = (
  simp length-set c.loop-k.invariant.0,
  below_more c.loop-k.places c.loop-k.k c.args.store.now.count _ (omega (arith, c.loop-k.invariant.0)) c.loop-k.invariant.1
      c.if-p-store.false,
)
