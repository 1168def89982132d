use Rattle.rewriting.proofs.machine_places.Goals as goal
use Rattle.rewriting.proofs.Depth.{machine_places_lem}

pub returns : goal.returns
returns c = machine_places_lem
