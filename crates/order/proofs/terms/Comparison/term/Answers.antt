-- By where the term ends.
use Rattle.order.proofs.Standing.{words_of}
use Rattle.order.proofs.terms.Comparison.term.Goals as goal

pub returns : goal.returns
returns c t s = words_of c.args.self.now.parts.now c.args.words.now c.args.k c.in_ok-end.end c.in_ok-end.ensures t s
