-- One rule more in the index.
use Rattle.std.proofs.Common.{◌≡◌, ℕ, ◌+◌, ◌-◌, refl, ◌∙◌, subst, arith, length-set}
use Rattle.books.specs.Indexing.{IndexedFrom, top_word}
use Rattle.books.proofs.Indexing.{index_none, index_more}
use Rattle.books.proofs.index.index_rules.Goals as goal

pub loop-i-init : goal.loop-i-init
loop-i-init c = (index_none _ c.args.rules _, refl, refl)

pub loop-i-preserved-then-f-lt32 : goal.loop-i-preserved-then-f-lt32
loop-i-preserved-then-f-lt32 c =
    let t : ℕ → ℕ = λ i. top_word c.args.words.now c.args.starts.now c.args.equations i in
    let m : ℕ = c.loop-i.i - 1 in
    let e : c.loop-i.i ≡ m + 1 = omega arith in
    let x = subst (λ (k : ℕ). IndexedFrom t c.args.rules k c.loop-i.first c.loop-i.next) e c.loop-i.invariant.0 in (
      index_more t c.args.rules m c.loop-i.first c.loop-i.next x c.if-f-lt32.true (omega arith) c.loop-i.invariant.1
          (omega (arith, c.loop-i.invariant.2)),
      length-set _ _ _ ∙ c.loop-i.invariant.1,
      length-set _ _ _ ∙ c.loop-i.invariant.2,
    )
