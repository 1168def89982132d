-- The root is a number of two words.
use Rattle.store.proofs.Writing.{put_root}
use Rattle.store.proofs.roots.set_root.Goals as goal

pub returns : goal.returns
returns c = put_root c.args.cells.now c.args.k c.args.v _ c.put_number.ensures
