-- A sign with parts, or what is a normal form if no rule can be used.
use Rattle.std.proofs.Common.{arith}
use Rattle.engine.proofs.Turned.{eval_rewritable, eval_turned, letter_normal, leaf_normal}
use Rattle.engine.proofs.work.Work.eval.Goals.{in_default-via-in-Sign+else-n-gt0, in_default-via-in_default}
use Rattle.engine.proofs.work.Work.eval.Goals as goal

pub apply-requires-clause-rewritable : goal.apply-requires-clause-rewritable
apply-requires-clause-rewritable c =
    eval_rewritable c.args.book.now c.requires.can_turn.0 c.args.self.now.store c.args.self.now.roots c.args.self.now.frames c.args.p
    c.requires.can_turn.1

pub apply-requires-clause-done : goal.apply-requires-clause-done
apply-requires-clause-done c = elim c.in_default.branch [
  | in_default-via-in-Sign+else-n-gt0 w ↦
      leaf_normal c.args.book.now c.requires.can_turn.0 c.args.self.now.store c.args.self.now.roots c.args.self.now.frames c.args.p
      c.requires.can_turn.1 w.in-Sign.f w.in-Sign.n w.in-Sign.ensures.2 (omega (arith, w.if-n-gt0.false))
  | in_default-via-in_default w ↦ λ h.
      letter_normal c.args.book.now c.requires.can_turn.0 c.args.self.now.store c.args.self.now.roots c.args.self.now.frames c.args.p
      c.requires.can_turn.1
      w.in_default.field-0 w.in_default.ensures.1
]

pub returns-in_default : goal.returns-in_default
returns-in_default c low ready =
    eval_turned c.args.book.now low c.args.self.now.store c.args.self.now.roots c.args.self.now.frames c.args.p ready
    c.apply.new.store c.apply.result c.apply.ensures.holding c.apply.ensures.result
