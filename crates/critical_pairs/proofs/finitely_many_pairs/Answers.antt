use Rattle.critical_pairs.proofs.finitely_many_pairs.Goals as goal
use Rattle.critical_pairs.proofs.Telling.{finitely_many_pairs_tell}

pub returns : goal.returns
returns c = finitely_many_pairs_tell
