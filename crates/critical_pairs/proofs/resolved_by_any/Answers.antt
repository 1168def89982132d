use Rattle.critical_pairs.proofs.resolved_by_any.Goals as goal
use Rattle.critical_pairs.proofs.Telling.{resolved_by_any_holds}

pub returns : goal.returns
returns c = resolved_by_any_holds
