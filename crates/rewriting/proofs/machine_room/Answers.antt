use Rattle.rewriting.proofs.machine_room.Goals as goal
use Rattle.rewriting.proofs.Depth.{machine_room_lem}

pub returns : goal.returns
returns c = machine_room_lem
