use Rattle.rewriting.proofs.machine_remembers.Goals as goal
use Rattle.rewriting.proofs.Asking.{machine_remembers_lem}

pub returns : goal.returns
returns c = machine_remembers_lem
