-- What was found of the book, with the theorems.
use Rattle.std.proofs.Common.{length}
use Rattle.equal.proofs.Promised.{judged_post, judged_few}
use Rattle.equal.proofs.judge.Goals as goal

pub returns-in_default : goal.returns-in_default
returns-in_default c = judged_few c.args.book.now c.args.ways.now (length c.args.work.now) c.in_default.ensures

pub returns : goal.returns
returns c = judged_post c.in-Some.ensures.1 c.in-Some.ensures.0 c.judge_in.ensures
