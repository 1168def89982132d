-- What is known or a rule makes, or the first part.
use Rattle.std.proofs.Common.{sym, subst}
use Rattle.books.specs.Books.{told}
use Rattle.engine.specs.declared.types.Focus.TheVariants.{Eval, Back}
use Rattle.engine.specs.declared.work.Work.{Work}
use Rattle.engine.specs.Turning.{TurnedTo, Ready}
use Rattle.engine.proofs.Advancing.{holding_same}
use Rattle.engine.proofs.Turned.{eval_turned}
use Rattle.engine.proofs.work.Work.enter.Goals as goal

pub returns-in-Some : goal.returns-in-Some
returns-in-Some c low ready =
    let rs = (told c.args.book.now).rules in let st = c.args.self.now.store in let h = ready.running.honest in
    eval_turned c.args.book.now low st c.args.self.now.roots c.args.self.now.frames c.args.p ready st (Back c.in-Some.v)
    (holding_same rs st c.args.p h) (c.in-Some.ensures rs h)

pub returns : goal.returns
returns c low ready =
    let k = c.args.book.now in let p = c.args.p in
    let same = c.in_default-by_rule.ensures.1 in
    subst (λ (w : Work). TurnedTo (told k).rules low w (Eval p) c.go_in.new.self c.go_in.result) same
    (c.go_in.ensures k low (subst (λ (w : Work). Ready k low w (Eval p)) (sym same) ready))
