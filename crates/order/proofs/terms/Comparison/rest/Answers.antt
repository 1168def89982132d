-- By where the first term ends.
use Rattle.std.proofs.Common.{arith}
use Rattle.order.proofs.Standing.{splits_none, splits_no_term, splits_by_words}
use Rattle.order.proofs.terms.Comparison.rest.Goals as goal

pub returns-in_err-count : goal.returns-in_err-count
returns-in_err-count c = rw c.from_residual.ensures
    (splits_none c.args.self.now.parts.now c.args.words.now c.args.terms (omega (arith, c.in_err-count.ensures)))

pub returns-in_err-start : goal.returns-in_err-start
returns-in_err-start c = rw c.from_residual-in_err-start.ensures
    (splits_no_term c.args.self.now.parts.now c.args.words.now c.args.terms c.in_err-start.ensures)

pub returns : goal.returns
returns c = splits_by_words c.args.self.now.parts.now c.args.words.now c.args.terms _
    (omega (arith, c.in_ok-count.ensures)) c.in_ok-start.ensures
