-- What is found of the book, and that the work words still serve.
use Rattle.engine.proofs.Keeping.{ample_still}
use Rattle.equal.proofs.Promised.{judged_post, settled_serves}
use Rattle.equal.proofs.Recalling.{refused}
use Rattle.equal.proofs.Serving.{serves_for}
use Rattle.equal.proofs.finding.find.Goals as goal

pub returns-in-Settles : goal.returns-in-Settles
returns-in-Settles c =
    let fresh = c.in-Some.ensures.1.1 in
    let enough = c.in-Some.ensures.0 in
    let same = c.new-settled.ensures.book in
    let serves = settled_serves fresh enough c.in-Settles.ensures in
    record {
      book = same;
      ways = c.new-settled.ensures.ways;
      serves = serves_for serves same;
      ample = ample_still serves.idle fresh.ample;
    }

pub returns-in_default-judge_in : goal.returns-in_default-judge_in
returns-in_default-judge_in c =
    refused c.judge_in.result c.in_default-judge_in.not-Settles (judged_post c.in-Some.ensures.1 c.in-Some.ensures.0 c.judge_in.ensures)
