-- A clash, or one pair more.
use Rattle.std.proofs.Common.{◌∙◌}
use Rattle.std.proofs.lemmas.Result.{MatchResult-from_err}
use Rattle.unification.proofs.Checking.{coarser_more, none_before}
use Rattle.unification.proofs.closing.Closing.saturate.Goals as goal

pub returns-in_err-p : goal.returns-in_err-p
returns-in_err-p c =
    MatchResult-from_err c.from_residual.result _ _ c.from_residual.ensures.0 (λ _. none_before c.args.self.now.store.now
    c.loop-p.self.store.now c.args.self.now.classes c.loop-p.self.classes c.loop-p.invariant.0 c.loop-p.invariant.1
    c.in_err-p.ensures)

pub loop-p-preserved : goal.loop-p-preserved
loop-p-preserved c = (
  c.merge.ensures.store ∙ c.loop-p.invariant.0,
  coarser_more c.args.self.now.store.now c.loop-p.self.store.now c.args.self.now.classes c.loop-p.self.classes
      c.merge.new.self.classes c.in-Some.p c.in-Some.q c.loop-p.invariant.0 c.loop-p.invariant.1
      (rw c.in-Some.is at c.in_ok-p.ensures) c.merge.ensures.merged,
)
