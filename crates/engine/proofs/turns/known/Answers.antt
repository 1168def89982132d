-- By the flag, or by the note.
use Rattle.std.proofs.Common.{sym}
use Rattle.engine.proofs.Advancing.{known_flag, known_note}
use Rattle.engine.proofs.turns.known.Goals as goal

pub returns-then-is_normal : goal.returns-then-is_normal
returns-then-is_normal c rs h = known_flag rs c.args.store.now c.args.p h c.requires (sym c.if-is_normal.ensures)

pub returns : goal.returns
returns c rs h = known_note rs c.args.store.now c.args.p h c.requires c.note.result c.note.ensures
