use Rattle.rewriting.proofs.order_ends.Goals as goal
use Rattle.rewriting.proofs.Grounding.{order_ends_lem}

pub returns : goal.returns
returns c = order_ends_lem
