use Rattle.critical_pairs.proofs.most_general_alike.Goals as goal
use Rattle.critical_pairs.proofs.Renaming.{most_general_alike_holds}

pub returns : goal.returns
returns c = most_general_alike_holds
