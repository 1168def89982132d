-- The sides are rows of terms over the signature.
use Rattle.equal.proofs.Sides.{is_some, sides_compared}
use Rattle.equal.proofs.equations.sides_meet.Goals as goal

pub unwrap-requires : goal.unwrap-requires
unwrap-requires c =
    let r = c.args.reducer.now in
    is_some r.rules.now.book c.args.i c.requires.equation c.equation.ensures.left c.equation.ensures.right r.work.now
    c.compare_rows.result c.compare_rows.ensures.result

pub returns-clause-result : goal.returns-clause-result
returns-clause-result c n e =
    let r = c.args.reducer.now in
    sides_compared r.rules.now.book c.args.i c.requires.equation c.equation.ensures.left c.equation.ensures.right n r.work.now e
    c.unwrap.result c.compare_rows.result c.unwrap.ensures c.compare_rows.ensures.result
