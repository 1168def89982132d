use Rattle.rewriting.proofs.made_one.Goals as goal
use Rattle.rewriting.proofs.Unifying.{made_one}

pub returns : goal.returns
returns c = made_one
