-- The search starts at the bucket's last slot and goes on by links.
use Rattle.std.proofs.Common.{◌≡◌, ℕ, ◌+◌, ◌<◌, sym, subst, arith}
use Rattle.store.specs.Chains.{Last, bucket_at}
use Rattle.store.proofs.Chaining.{search_start, search_more}
use Rattle.store.proofs.types.Store.find.Goals as goal

pub loop-i-init : goal.loop-i-init
loop-i-init c =
    let a = c.args.self.now in let ws = a.words.now in let b = c.bucket.result in
    search_start a.mask ws a.count c.args.key.now b c.get-next.result c.bucket.ensures.is
    (subst (λ (f : ℕ). Last a.mask ws b a.count f) (sym c.get-next.ensures)
    (a.chains.lasts b c.bucket.ensures.low))

pub loop-i-preserved : goal.loop-i-preserved
loop-i-preserved c =
    let a = c.args.self.now in let ws = a.words.now in let f = c.loop-i.next in let i = c.in-Some.i in
    let g = c.get-next-in-Some.result in
    let e : f ≡ i + 1 = omega (arith, c.in-Some.ensures) in
    let l : i < a.count = omega (arith, c.loop-i.invariant.low) in
    search_more a.mask ws a.count c.args.key.now f i g e c.loop-i.invariant (c.holds.ensures.no c.if-holds.false)
    (subst (λ (f1 : ℕ). Last a.mask ws (bucket_at a.mask ws i) i f1) (sym c.get-next-in-Some.ensures) (a.chains.links i l))
