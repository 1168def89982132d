use Rattle.rewriting.proofs.machine_valid.Goals as goal
use Rattle.rewriting.proofs.Moving.{machine_valid_lem}

pub returns : goal.returns
returns c = machine_valid_lem
