-- A turn.
use Rattle.std.proofs.Common.{subst}
use Rattle.books.specs.Books.{told}
use Rattle.engine.specs.declared.types.Focus.TheVariants.{Eval, Back}
use Rattle.engine.specs.Spacing.{WithSpace}
use Rattle.engine.proofs.RunningOn.{ended, went}
use Rattle.engine.proofs.work.Work.step.Goals as goal

pub returns-in-Eval : goal.returns-in-Eval
returns-in-Eval c low ready =
    let b = c.args.book.now in
    let mid = c.with_space.new.self in
    let w = subst (WithSpace (told b).rules low c.args.self.now c.args.focus mid) c.in-Eval.is
    (c.in_ok-p.ensures (told b).rules low ready.running) in
    went b low c.args.self.now c.args.focus mid (Eval c.in-Eval.p) c.eval.new.self c.eval.result ready w (c.eval.ensures low)

pub returns-in-Back : goal.returns-in-Back
returns-in-Back c low ready =
    let b = c.args.book.now in
    let mid = c.with_space.new.self in
    let w = subst (WithSpace (told b).rules low c.args.self.now c.args.focus mid) c.in-Back.is
    (c.in_ok-p.ensures (told b).rules low ready.running) in
    ended b low c.args.self.now c.args.focus mid c.in-Back.v ready w c.if-self-eq0.true

pub returns-in-Back-2 : goal.returns-in-Back-2
returns-in-Back-2 c low ready =
    let b = c.args.book.now in
    let mid = c.with_space.new.self in
    let w = subst (WithSpace (told b).rules low c.args.self.now c.args.focus mid) c.in-Back.is
    (c.in_ok-p.ensures (told b).rules low ready.running) in
    went b low c.args.self.now c.args.focus mid (Back c.in-Back.v) c.back.new.self c.back.result ready w (c.back.ensures low)
