use Rattle.rewriting.proofs.peaks_tell.Goals as goal
use Rattle.rewriting.proofs.Peaks.{peaks_tell_lem}

pub returns : goal.returns
returns c = peaks_tell_lem
