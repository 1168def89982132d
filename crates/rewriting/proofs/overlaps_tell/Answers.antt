use Rattle.rewriting.proofs.overlaps_tell.Goals as goal
use Rattle.rewriting.proofs.Peaks.{overlaps_tell_lem}

pub returns : goal.returns
returns c = overlaps_tell_lem
