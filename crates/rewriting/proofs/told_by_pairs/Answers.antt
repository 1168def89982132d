use Rattle.rewriting.proofs.told_by_pairs.Goals as goal
use Rattle.rewriting.proofs.Pairs.{told_by_pairs_lem}

pub returns : goal.returns
returns c = told_by_pairs_lem
