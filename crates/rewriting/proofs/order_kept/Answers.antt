use Rattle.rewriting.proofs.order_kept.Goals as goal
use Rattle.rewriting.proofs.Ordering.{order_kept_lem}

pub returns : goal.returns
returns c = order_kept_lem
