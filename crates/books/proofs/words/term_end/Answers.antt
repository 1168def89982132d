-- One term is a count of one.
use Rattle.books.proofs.Scanning.{one_term}
use Rattle.books.proofs.words.term_end.Goals as goal

pub returns : goal.returns
returns c =
    one_term c.args.letters c.args.parts.now c.args.words.now c.args.at c.terms_end.result c.terms_end.ensures
