-- What the number of different parts is.
use Rattle.rewriting.proofs.Different.{different_counts_lem}
use Rattle.rewriting.proofs.different_counts.Goals as goal

pub returns : goal.returns
returns c = different_counts_lem
