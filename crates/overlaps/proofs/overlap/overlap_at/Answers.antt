-- The words of both left sides tell where the rules may meet.
use Rattle.std.proofs.Common.{ℕ, ◌*◌, List, refl, subst, arith}
use Rattle.std.proofs.lemmas.List.{take_rest}
use Rattle.books.specs.Books.{sound_book_in}
use Rattle.books.proofs.Bookish.{rule_sides}
use Rattle.order.proofs.Descent.{rules_down}
use Rattle.overlaps.specs.Positions.{SameSign}
use Rattle.overlaps.proofs.Overlapping.{other_sign, no_end, overlap_is}
use Rattle.overlaps.proofs.overlap.overlap_at.Goals as goal

pub overflow_mul-from : goal.overflow_mul-from
overflow_mul-from c =
    let b = c.args.rules.now.book in
    omega (arith, (rule_sides b (sound_book_in b) c.args.i c.requires.rules.0).left_size)

pub returns-then-not-same_sign : goal.returns-then-not-same_sign
returns-then-not-same_sign c =
    let left = c.rule.result.left.now in
    let Other : List ℕ → Type 0 = λ ws. SameSign ws c.rule-2.result.left.now → ⊥ in
    other_sign c.args.rules.now.book (rules_down c.args.rules.now) c.args.i c.args.j c.args.k c.requires.rules
    c.rule.ensures.left c.rule-2.ensures.left (subst Other (take_rest left (2 * c.args.k)) (c.if-not-same_sign.ensures.fails refl))

pub returns : goal.returns
returns c =
    let left = c.rule.result.left.now in
    let Same : List ℕ → Type 0 = λ ws. SameSign ws c.rule-2.result.left.now in
    overlap_is c.args.rules.now.book (rules_down c.args.rules.now) c.args.i c.args.j c.args.k c.requires.rules
    c.rule.ensures.left c.rule-2.ensures.left c.parts.ensures c.in_ok-to.to c.requires.symbol
    (subst Same (take_rest left (2 * c.args.k)) (c.same_sign.ensures.holds c.if-not-same_sign.false)) c.in_ok-to.ensures

pub returns-in_err-to : goal.returns-in_err-to
returns-in_err-to c = rw c.from_residual.ensures
    (no_end c.args.rules.now.book (rules_down c.args.rules.now) c.args.i c.args.j c.args.k c.requires.rules
    c.rule.ensures.left c.rule-2.ensures.left c.parts.ensures c.in_err-to.ensures)
