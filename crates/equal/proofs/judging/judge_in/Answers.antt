-- The first thing that fails is named.
use Rattle.std.proofs.Common.{rules, ap, ◌∙◌}
use Rattle.books.specs.declared.row.Book.{Book}
use Rattle.order.proofs.Descent.{rules_down}
use Rattle.equal.proofs.Saying.{judged_up, judged_down}
use Rattle.equal.proofs.Serving.{serves_on}
use Rattle.equal.proofs.judging.judge_in.Goals as goal

pub returns-in-Err : goal.returns-in-Err
returns-in-Err c n room = judged_up c.in-Some.book c.in-Some.ensures c.args.ways.now n c.in-Err.ensures

pub returns : goal.returns
returns c n room =
    let known = c.in-Ok.rules in
    judged_down known.book (ap (λ (b : Book). b.words.now) c.in-Ok.ensures ∙ c.in-Some.ensures) c.args.ways.now n c.judge_rules.result
    (rules_down known) (serves_on _ c.judge_rules.new.reducer _ c.judge_rules.ensures.idle (search rules))
    c.judge_rules.ensures.result room c.unwrap_or.ensures
