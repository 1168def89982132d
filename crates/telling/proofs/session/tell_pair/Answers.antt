-- What a session says of the two rows of a pair, by what is given.
use Rattle.std.proofs.Common.{ℕ, List, subst₂}
use Rattle.equal.specs.Promises.{ToldPost}
use Rattle.telling.proofs.session.tell_pair.Goals as goal

pub returns-clause-same : goal.returns-clause-same
returns-clause-same c = c.tell.ensures.same c.args.given.book.now c.args.given.ways.now c.args.given.work c.requires

pub returns-clause-told : goal.returns-clause-told
returns-clause-told c = subst₂ (λ (x y : List ℕ). ToldPost c.args.given.book.now c.args.given.ways.now x y c.args.given.work c.tell.result)
    c.as_slice.ensures.value c.as_slice-2.ensures.value
    (c.tell.ensures.told c.args.given.book.now c.args.given.ways.now c.args.given.work c.requires)
