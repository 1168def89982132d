-- Each function by the order's cases.
use Rattle.std.proofs.Common.{sym, ◌∙◌, arith}
use Rattle.order.proofs.Deciding.{exceeds_none, exceeds_not, exceeds_next, covers_none, covers_same, covers_greater, covers_next}
use Rattle.order.proofs.Deciding.{compares_letter, compares_part, compares_over_letter, compares_not_before, compares_before, precedes_same}
use Rattle.order.proofs.Tables.{truthful_noted}
use Rattle.order.proofs.terms.Comparison.+all_less_compare_greater_precedes_some_at_least.Goals as goal
use Rattle.order.proofs.terms.Comparison.+all_less_compare_greater_precedes_some_at_least.Goals.{some_at_least-then-same}
use Rattle.order.proofs.terms.Comparison.+all_less_compare_greater_precedes_some_at_least.Goals.{some_at_least-else-same}

pub all_less-returns-in_default-clause-is : goal.all_less-returns-in_default-clause-is
all_less-returns-in_default-clause-is t c = exceeds_none c.args.self.now c.args.k c.args.terms c.in_default.ensures

pub all_less-returns-then-greater-clause-is : goal.all_less-returns-then-greater-clause-is
all_less-returns-then-greater-clause-is t c = exceeds_next c.args.self.now c.args.k c.args.terms c.in-Some.rest c.in-Some.ensures.0
    c.all_less.result c.if-greater.ensures.is c.all_less.ensures.is

pub all_less-returns-else-greater-clause-is : goal.all_less-returns-else-greater-clause-is
all_less-returns-else-greater-clause-is t c = rw c.if-greater.false
    (exceeds_not c.args.self.now c.args.k c.args.terms c.in-Some.rest c.in-Some.ensures.0 c.if-greater.ensures.is)

pub compare-returns-in_default-clause-is : goal.compare-returns-in_default-clause-is
compare-returns-in_default-clause-is t c = compares_letter c.args.self.now c.args.k c.args.j c.in_default.ensures

pub compare-returns-then-some_at_least-clause-is : goal.compare-returns-then-some_at_least-clause-is
compare-returns-then-some_at_least-clause-is t c =
    compares_part c.args.self.now c.args.k c.args.j c.in-Some.f c.in-Some.ensures c.if-some_at_least.ensures.is

pub compare-returns-in_default-head-clause-is : goal.compare-returns-in_default-head-clause-is
compare-returns-in_default-head-clause-is t c = compares_over_letter c.args.self.now c.args.k c.args.j c.in-Some.f c.in-Some.ensures
    c.if-some_at_least.ensures.is c.in_default-head.ensures

pub compare-returns-then-precedes-clause-is : goal.compare-returns-then-precedes-clause-is
compare-returns-then-precedes-clause-is t c = compares_before c.args.self.now c.args.k c.args.j c.in-Some.f c.in-Some.ensures
    c.if-some_at_least.ensures.is c.in-Some-head.g c.in-Some-head.ensures c.all_less.result c.if-precedes.ensures.is c.all_less.ensures.is

pub compare-returns-else-precedes-clause-is : goal.compare-returns-else-precedes-clause-is
compare-returns-else-precedes-clause-is t c = rw c.if-precedes.false
    (compares_not_before c.args.self.now c.args.k c.args.j c.in-Some.f c.in-Some.ensures
    c.if-some_at_least.ensures.is c.in-Some-head.g c.in-Some-head.ensures c.if-precedes.ensures.is)

pub greater-returns-clause-kept : goal.greater-returns-clause-kept
greater-returns-clause-kept t c = truthful_noted c.args.self.now c.compare-answer.new.table c.set.new.self c.args.k c.args.j
    c.compare-answer.result c.compare-answer.ensures.is c.compare-answer.ensures.kept c.set.ensures

pub precedes-returns-in-Some-clause-is : goal.precedes-returns-in-Some-clause-is
precedes-returns-in-Some-clause-is t c = precedes_same c.args.self.now c.args.f c.args.g c.greater.result (omega arith)
    (c.in-Some.ensures.2 c.greater.result c.greater.ensures.is)

pub some_at_least-returns-in_default-clause-is : goal.some_at_least-returns-in_default-clause-is
some_at_least-returns-in_default-clause-is t c = covers_none c.args.self.now c.args.terms c.args.j c.in_default.ensures

pub some_at_least-returns-then-greater-clause-is : goal.some_at_least-returns-then-greater-clause-is
some_at_least-returns-then-greater-clause-is t c = rw c.if-greater.true (elim c.if-same.branch [
  | some_at_least-then-same w ↦ covers_same c.args.self.now c.args.terms c.args.j c.in-Some.rest c.in-Some.ensures.0 w.if-same.ensures
  | some_at_least-else-same w ↦ covers_greater c.args.self.now c.args.terms c.args.j c.in-Some.rest c.in-Some.ensures.0
      (rw (sym w.value-is ∙ c.if-greater.true) at w.greater.ensures.is)
])

pub some_at_least-returns-else-greater-clause-is : goal.some_at_least-returns-else-greater-clause-is
some_at_least-returns-else-greater-clause-is t c = elim c.if-same.branch [
  | some_at_least-then-same w ↦ absurd (cc)
  | some_at_least-else-same w ↦ covers_next c.args.self.now c.args.terms c.args.j c.in-Some.rest c.in-Some.ensures.0 c.some_at_least.result
      w.if-same.ensures (rw (sym w.value-is ∙ c.if-greater.false) at w.greater.ensures.is) c.some_at_least.ensures.is
]
