use Rattle.rewriting.proofs.down_ends.Goals as goal
use Rattle.rewriting.proofs.Terminating.{down_ends}

pub returns : goal.returns
returns c = down_ends
