-- A note is set.
use Rattle.std.proofs.Common.{arith}
use Rattle.engine.proofs.Turned.{asked_inside, turned_noted}
use Rattle.engine.proofs.work.Work.back.Goals as goal

pub set_note-requires : goal.set_note-requires
set_note-requires c =
    let (low, ready) = c.requires.can_turn in
    let t = c.go_back-focus.ensures low ready in
    let w = asked_inside c.args.book.now low c.args.self.now.store c.args.self.now.roots c.args.self.now.frames c.args.v ready
    c.requires.some c.in-Some.p c.in-Some.ensures in (
      omega (arith, w, t.holding.longer),
      omega (arith, ready.running.focus, t.holding.longer),
    )

pub returns-in-Some : goal.returns-in-Some
returns-in-Some c low ready =
    let new = c.go_back-focus.new.self in
    turned_noted c.args.book.now low c.args.self.now.store c.args.self.now.roots c.args.self.now.frames c.args.v ready
    c.requires.some new.store new.roots new.frames
    c.go_back-focus.result c.in-Some.p c.set_note.new.self c.in-Some.ensures (c.go_back-focus.ensures low ready) c.set_note.ensures
