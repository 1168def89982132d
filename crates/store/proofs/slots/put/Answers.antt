-- The cell is a number of two words.
use Rattle.std.proofs.Common.{arith}
use Rattle.store.proofs.Writing.{put_cell}
use Rattle.store.proofs.slots.put.Goals as goal

pub returns : goal.returns
returns c = put_cell c.args.ws.now c.args.i c.args.k c.args.v _ (omega arith) c.put_number.ensures
