-- One term more.
use Rattle.std.proofs.lemmas.Bool.Decides.{Decides-eqb}
use Rattle.std.proofs.lemmas.Slice.Eq.{slice_eq-Decides}
use Rattle.order.proofs.Comparing.{skips_next, skips_end_left, skips_end_right, skips_differ, differ_words}
use Rattle.order.proofs.terms.Comparison.first_difference.Goals as goal

pub loop-c-preserved : goal.loop-c-preserved
loop-c-preserved c =
    let left = c.in-Some-Some.ensures in
    let right = c.in-Some-Some.ensures' in
    skips_next c.args.self.now c.args.lefts c.args.rights c.loop-c.a c.loop-c.b c.loop-c.invariant
    c.in-Some-Some.c c.in-Some-Some.d left.0 right.0
    (differ_words c.args.self.now c.loop-c.a.start c.loop-c.b.start _ _ left.1 right.1 _ (slice_eq-Decides Decides-eqb _ _)
    _ c.if-ne.ensures)

pub returns-in_default : goal.returns-in_default
returns-in_default c =
    skips_end_right c.args.self.now c.args.lefts c.args.rights c.loop-c.a c.loop-c.b c.loop-c.invariant c.in_default.ensures'

pub returns-in_default-2 : goal.returns-in_default-2
returns-in_default-2 c =
    let none = rw c.in_default.is-0 at c.rest.ensures in
    skips_end_left c.args.self.now c.args.lefts c.args.rights c.loop-c.a c.loop-c.b c.loop-c.invariant none

pub returns-then-ne : goal.returns-then-ne
returns-then-ne c =
    let left = c.in-Some-Some.ensures in
    let right = c.in-Some-Some.ensures' in
    skips_differ c.args.self.now c.args.lefts c.args.rights c.loop-c.a c.loop-c.b c.loop-c.invariant
    c.in-Some-Some.c c.in-Some-Some.d left.0 right.0
    (differ_words c.args.self.now c.loop-c.a.start c.loop-c.b.start _ _ left.1 right.1 _ (slice_eq-Decides Decides-eqb _ _)
    _ c.if-ne.ensures)
