-- One root after the other.
use Rattle.std.proofs.Common.{subst}
use Rattle.order.specs.declared.terminating.Terminating.{Terminating}
use Rattle.engine.specs.Normal.{Normalized}
use Rattle.engine.proofs.Contexts.{work}
use Rattle.engine.proofs.Comparing.{first_none, both}
use Rattle.engine.proofs.reducer.Reducer.both_normal.Goals as goal

pub returns-in_err-normalize-clause-normal : goal.returns-in_err-normalize-clause-normal
returns-in_err-normalize-clause-normal c =
    let r = c.args.self.now in
    first_none r.rules.now.book r.work.now c.normalize.new.self.work.now c.requires c.in_err-normalize.ensures.normal
    c.from_residual.result c.from_residual.ensures.0

pub returns-clause-normal : goal.returns-clause-normal
returns-clause-normal c =
    let r = c.args.self.now in
    let v = c.normalize.new.self.work.now in
    let second = subst (λ (t : Terminating). Normalized t.book (work v.store c.exchange.new.roots v.frames)
    c.normalize-2.new.self.work.now c.normalize-2.result) c.in_ok-normalize.ensures.lent.rules c.normalize-2.ensures.normal in
    both r.rules.now.book r.work.now c.requires v c.in_ok-normalize.ensures.normal
    c.exchange.new.roots c.exchange.ensures c.normalize-2.new.self.work.now c.normalize-2.result second
