use Rattle.rewriting.proofs.machine_ends.Goals as goal
use Rattle.rewriting.proofs.Costing.{machine_ends_lem}

pub returns : goal.returns
returns c = machine_ends_lem
