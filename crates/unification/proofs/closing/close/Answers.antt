-- A clash, or the closure.
use Rattle.std.proofs.Common.{subst, arith}
use Rattle.std.proofs.lemmas.Result.{MatchResult-from_err}
use Rattle.store.specs.declared.types.Store.{Store}
use Rattle.unification.specs.Classes.{CoarserClosed, NoneRespects}
use Rattle.unification.proofs.Checking.{closure_by, no_closure}
use Rattle.unification.proofs.closing.close.Goals as goal

pub returns-in_err-saturate : goal.returns-in_err-saturate
returns-in_err-saturate c =
    MatchResult-from_err c.from_residual.result _ _ c.from_residual.ensures.0 (λ _. no_closure c.args.store.now c.args.p c.args.q
    c.new.result c.merge.new.self.classes (omega arith) c.new.ensures c.merge.ensures.merged
    (subst (λ (z : Store). NoneRespects z z.count c.merge.new.self.classes) c.merge.ensures.store c.in_err-saturate.ensures))

pub returns : goal.returns
returns c =
    closure_by c.args.store.now c.args.p c.args.q c.new.result c.merge.new.self.classes (omega arith) c.new.ensures
    c.merge.ensures.merged c.saturate.new.self.classes (omega arith) (omega arith)
    (subst (λ (z : Store). CoarserClosed z c.merge.new.self.classes c.saturate.new.self.classes) c.merge.ensures.store
    c.in_ok-saturate.ensures)
