-- The results are built with the least replacement.
use Rattle.overlaps.proofs.Pairing.{pair_found}
use Rattle.overlaps.proofs.pairs.critical_pair.Goals as goal

pub returns : goal.returns
returns c = pair_found c.in_ok-unifier.ensures c.results.ensures
