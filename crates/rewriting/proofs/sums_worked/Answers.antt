use Rattle.rewriting.proofs.sums_worked.Goals as goal
use Rattle.rewriting.proofs.Sums.{sums_worked_lem}

pub returns : goal.returns
returns c = sums_worked_lem
