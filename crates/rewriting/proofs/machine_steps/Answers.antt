use Rattle.rewriting.proofs.machine_steps.Goals as goal
use Rattle.rewriting.proofs.Moving.{machine_steps_lem}

pub returns : goal.returns
returns c = machine_steps_lem
