-- Words that are enough are no fewer than the least.
use Rattle.std.proofs.Common.{refl}
use Rattle.equal.proofs.Promised.{shared_for}
use Rattle.equal.proofs.words.share_for.Goals as goal

pub returns-then-too_few : goal.returns-then-too_few
returns-then-too_few c = c.if-too_few.ensures.holds refl

pub returns : goal.returns
returns c = shared_for _ _ _ c.share_out.ensures (c.if-too_few.ensures.fails refl)
