-- One side more, or the reason why there is none.
use Rattle.std.proofs.Common.{ℕ, ◌+◌, ◌-◌, List, [], refl, ◌∙◌, subst, arith, rules, length-append, length-set}
use Rattle.books.specs.Layouts.{SidesAt}
use Rattle.books.proofs.Siding.{sides_none, sides_more, set_behind, zeros_behind, no_side, long_side, sides_end}
use Rattle.books.proofs.book.read_sides.Goals as goal

pub loop-start-init : goal.loop-start-init
loop-start-init c = (λ ys. sides_none c.args.parts.now c.args.words.now c.args.from _ c.requires.1 refl, search rules)

pub returns-in_err-end : goal.returns-in_err-end
returns-in_err-end c =
    rw c.from_residual.ensures (no_side c.args.parts.now c.args.words.now c.loop-start.start-index c.args.count c.args.from c.loop-start.at
    _ (c.loop-start.invariant.0 []) (omega (arith, c.loop-start.invariant.1)) c.in_err-end.ensures)

pub returns-then-end-at : goal.returns-then-end-at
returns-then-end-at c =
    let t = c.in_ok-end.ensures in
    long_side c.args.parts.now c.args.words.now c.loop-start.start-index c.args.count c.args.from c.loop-start.at c.in_ok-end.end
    _ (c.loop-start.invariant.0 []) (omega (arith, c.loop-start.invariant.1)) t.0 t.1 t.2 c.if-end-at.true

pub loop-start-preserved : goal.loop-start-preserved
loop-start-preserved c =
    let t = c.in_ok-end.ensures in
    let i = c.loop-start.start-index in
    let At : List ℕ → Type 0 = SidesAt c.args.parts.now c.args.words.now (i + 1) c.args.from c.in_ok-end.end in (
      λ ys. subst At (set_behind c.args.from c.loop-start.start-items ys i c.in_ok-end.end (omega arith))
          (sides_more c.args.parts.now c.args.words.now i c.args.from c.loop-start.at c.in_ok-end.end
          _ (c.loop-start.invariant.0 ys) (omega (arith, length-append c.loop-start.start-items ys)) t.0 t.1 t.2 c.if-end-at.false),
      length-set c.loop-start.start-items i c.in_ok-end.end ∙ c.loop-start.invariant.1,
    )

pub returns : goal.returns
returns c =
    rw c.then_some.ensures (sides_end c.args.parts.now c.args.words.now c.loop-start.start-index c.args.count c.args.from c.loop-start.at
    _ (omega (arith, c.loop-start.invariant.1)) (c.loop-start.invariant.0 _)
    (λ i h. zeros_behind c.args.from c.loop-start.start-items 256 (c.args.count + 1 - 1) i (omega (arith, c.loop-start.invariant.1))))
