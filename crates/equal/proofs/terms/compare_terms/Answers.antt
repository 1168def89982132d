-- By what was found of the two rows.
use Rattle.engine.proofs.Keeping.{down_in}
use Rattle.equal.proofs.Telling.{says_answer}
use Rattle.equal.proofs.terms.compare_terms.Goals as goal

pub returns-clause-result : goal.returns-clause-result
returns-clause-result c n a short-x short-y = says_answer c.args.reducer.now.rules.now.book c.args.reducer.now.work.now
    (down_in c.args.reducer.now) c.requires.settled n a
    c.args.one.now c.args.other.now short-x short-y c.compare_rows.result c.compare_rows.ensures.result c.answer.result
    c.answer.ensures
