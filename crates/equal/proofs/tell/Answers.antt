-- Too few words; or what a session on the rows says.
use Rattle.std.proofs.Common.{refl, length}
use Rattle.equal.proofs.Promised.{told_small}
use Rattle.equal.proofs.tell.Goals as goal

pub returns-then-too_few_with_terms : goal.returns-then-too_few_with_terms
returns-then-too_few_with_terms c = told_small c.args.book.now c.args.ways.now c.args.one.now c.args.other.now (length c.args.work.now)
    (c.if-too_few_with_terms.ensures.holds refl)

pub returns : goal.returns
returns c = c.tell.ensures.told c.args.book.now c.args.ways.now (length c.args.work.now) c.new.ensures
