use Rattle.rewriting.proofs.machine_cost.Goals as goal
use Rattle.rewriting.proofs.Costing.{cost, cost_moves}

pub returns : goal.returns
returns c = (cost, cost_moves)
