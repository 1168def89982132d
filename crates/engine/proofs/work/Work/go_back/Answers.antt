-- Whether parts wait.
use Rattle.std.proofs.Common.{sym, ap, subst, arith}
use Rattle.books.specs.Books.{told}
use Rattle.engine.specs.declared.types.Frame.{Frame}
use Rattle.engine.specs.Turning.{TopFrame}
use Rattle.engine.proofs.Onward.{framed_more}
use Rattle.engine.proofs.Turned.{top_frame}
use Rattle.engine.proofs.work.Work.go_back.Goals as goal

pub returns-then-frame : goal.returns-then-frame
returns-then-frame c = c.go_on.ensures c.args.book.now

pub go_out-requires-clause-frame : goal.go_out-requires-clause-frame
go_out-requires-clause-frame c =
    let (low, ready) = c.requires.can_turn in
    let st = c.args.self.now.store in let q = c.args.self.now.roots in let fr = c.args.self.now.frames in
    let w = framed_more (told c.args.book.now).rules low st q fr c.args.v ready.running c.requires.some in (
      subst (λ (x : Frame). TopFrame c.args.self.now x) (sym c.top-frame.ensures)
          (top_frame c.args.book.now low st q fr c.args.v ready c.requires.some),
      omega (arith, w.1, ap (λ (x : Frame). x.done) c.top-frame.ensures, ap (λ (x : Frame). x.others) c.top-frame.ensures),
    )
