-- Each turn goes on to one term.
use Rattle.std.proofs.Common.{◌≡◌, ℕ, ◌+◌, ◌-◌, ◌<◌, None, Some, sym, subst, arith}
use Rattle.store.specs.Stores.{held}
use Rattle.ways.specs.Showing.{Followed}
use Rattle.ways.proofs.Following.{kept_same, kept_then, next_on, Follows, follows_start, follows_more, follows_stop}
use Rattle.ways.proofs.walk.Walk.follow.Goals as goal

pub loop-init : goal.loop-init
loop-init c =
    let w = c.args.self.now in
    let t = held w.store.now w.roots.now 0 in
    let all : c.args.count ≡ c.args.count - 0 = omega arith in (
      c.requires,
      kept_same w,
      subst (λ (m : ℕ). Follows w.book.now w.ways.now c.args.from c.args.count t c.args.from m t) all
          (follows_start w.book.now w.ways.now c.args.from c.args.count t),
    )

pub returns-in_err-at-clause-kept : goal.returns-in_err-at-clause-kept
returns-in_err-at-clause-kept c = kept_then c.args.self.now c.loop.self c.next.new.self c.loop.invariant.1 c.next.ensures.kept

pub returns-in_err-at-clause-told : goal.returns-in_err-at-clause-told
returns-in_err-at-clause-told c =
    let w = c.args.self.now in
    let v = c.loop.self in
    let x = c.next.new.self in
    let last = held x.store.now x.roots.now 0 in
    let some : 0 < c.args.count - c.loop.counter = omega arith in
    subst (Followed w.book.now w.ways.now c.args.from c.args.count (held w.store.now w.roots.now 0) last) (sym c.from_residual.ensures)
    (follows_stop w.book.now w.ways.now c.args.from c.args.count _ c.loop.at _ _ c.loop.invariant.2 last some
    (next_on w v c.loop.invariant.1 c.loop.at (held v.store.now v.roots.now 0) last None c.in_err-at.ensures.told) last)

pub loop-preserved : goal.loop-preserved
loop-preserved c =
    let w = c.args.self.now in
    let x = c.next.new.self in
    let some : 0 < c.args.count - c.loop.counter = omega arith in
    let less : c.args.count - c.loop.counter - 1 ≡ c.args.count - (c.loop.counter + 1) = omega arith in (
      c.next.ensures.ready,
      kept_then w c.loop.self x c.loop.invariant.1 c.next.ensures.kept,
      subst (λ (m : ℕ). Follows w.book.now w.ways.now c.args.from c.args.count (held w.store.now w.roots.now 0) c.in_ok-at.at m
          (held x.store.now x.roots.now 0)) less
          (follows_more w.book.now w.ways.now c.args.from c.args.count _ c.loop.at _ _ c.loop.invariant.2 c.in_ok-at.at _ some
          (next_on w c.loop.self c.loop.invariant.1 c.loop.at _ _ (Some c.in_ok-at.at) c.in_ok-at.ensures.told)),
    )
