-- One part more, or no cell for it.
use Rattle.std.proofs.Common.{◌≡◌, ℕ, ◌+◌, ◌-◌, subst, arith}
use Rattle.store.specs.Transfers.{PartsPushed}
use Rattle.store.proofs.Emitting.{pushed_more}
use Rattle.store.proofs.types.Store.push_parts.Goals as goal

pub loop-k-preserved : goal.loop-k-preserved
loop-k-preserved c =
    let a = c.args.self.now in let q = c.args.roots.now in let i = c.args.p.0 in let r = c.loop-k.roots in
    let k = c.loop-k.k - 1 in let m = c.args.n - c.loop-k.k in
    let e : c.loop-k.k ≡ k + 1 = omega arith in
    let x = c.in_ok-push.ensures in
    pushed_more a q i k m r c.part.result.0 c.push.new.self (subst (λ (o : ℕ). PartsPushed a q i o m r) e c.loop-k.invariant)
    c.part.ensures.is (omega arith) x.0 x.1 _ (omega arith)
