use Rattle.rewriting.proofs.heights.Goals as goal
use Rattle.rewriting.proofs.Height.{height, height_falls}

pub returns : goal.returns
returns c = (height, height_falls)
