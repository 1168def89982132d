use Rattle.rewriting.proofs.settled.Goals as goal
use Rattle.rewriting.proofs.Settling.{settled}

pub returns : goal.returns
returns c = settled
