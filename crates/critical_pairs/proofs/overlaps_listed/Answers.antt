use Rattle.critical_pairs.proofs.overlaps_listed.Goals as goal
use Rattle.critical_pairs.proofs.Sorted.{overlaps_are_listed}

pub returns : goal.returns
returns c = overlaps_are_listed
