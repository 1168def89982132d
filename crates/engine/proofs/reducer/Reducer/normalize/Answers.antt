-- From the start to the end.
use Rattle.std.proofs.Common.{◌-◌, Ok, refl, subst}
use Rattle.std.specs.declared.ops.ControlFlow.{ControlFlow}
use Rattle.store.specs.declared.types.Place.{Place}
use Rattle.engine.specs.declared.types.Focus.{Focus}
use Rattle.engine.specs.declared.types.Focus.TheVariants.{Eval}
use Rattle.engine.specs.Running.{state_in}
use Rattle.engine.specs.Spacing.{Stepped}
use Rattle.engine.proofs.Contexts.{work}
use Rattle.engine.proofs.Keeping.{down_in, honest_in}
use Rattle.engine.proofs.RunningOn.{under_way, further, falls, first_ready, normal, stopped}
use Rattle.engine.proofs.reducer.Reducer.normalize.Goals as goal

pub loop-next-init : goal.loop-next-init
loop-next-init c =
    let r = c.args.self.now in
    let b = r.rules.now.book in (
      record { rules = refl; lent = refl },
      under_way b (r.work.now.roots.top - 1) (work r.work.now.store c.truncate.new.self c.clear.new.self)
          (Eval c.place.result) (first_ready b r.work.now (down_in r) (honest_in r) c.requires c.truncate.new.self c.truncate.ensures
          c.clear.new.self c.clear.ensures c.place.result c.place.ensures),
    )

pub loop-next-smaller : goal.loop-next-smaller
loop-next-smaller c =
    let r = c.args.self.now in
    let b = r.rules.now.book in
    let low = r.work.now.roots.top - 1 in
    let first = work r.work.now.store c.truncate.new.self c.clear.new.self in
    let v = c.loop-next.self.work.now in
    let turn = subst (λ (x : ControlFlow Place Focus). Stepped b low v c.loop-next.focus c.step.new.self (Ok x))
    c.in-Ok-Continue.field-0-is (c.in-Ok-Continue.ensures low c.loop-next.invariant.1.ready) in
    falls b low first (state_in first (Eval c.place.result)) v c.loop-next.focus
    c.loop-next.invariant.1 c.step.new.self c.in-Ok-Continue.next turn

pub loop-next-preserved : goal.loop-next-preserved
loop-next-preserved c =
    let r = c.args.self.now in
    let b = r.rules.now.book in
    let low = r.work.now.roots.top - 1 in
    let first = work r.work.now.store c.truncate.new.self c.clear.new.self in
    let v = c.loop-next.self.work.now in
    let turn = subst (λ (x : ControlFlow Place Focus). Stepped b low v c.loop-next.focus c.step.new.self (Ok x))
    c.in-Ok-Continue.field-0-is (c.in-Ok-Continue.ensures low c.loop-next.invariant.1.ready) in (
      record { rules = c.loop-next.invariant.0.rules; lent = c.loop-next.invariant.0.lent },
      further b low first (state_in first (Eval c.place.result)) v c.loop-next.focus
          c.loop-next.invariant.1 c.step.new.self c.in-Ok-Continue.next turn,
    )

pub returns-in-Ok-Break-clause-normal : goal.returns-in-Ok-Break-clause-normal
returns-in-Ok-Break-clause-normal c =
    let r = c.args.self.now in
    let b = r.rules.now.book in
    let v = c.loop-next.self.work.now in
    normal b r.work.now (down_in r) (honest_in r) c.requires c.truncate.new.self c.truncate.ensures c.clear.new.self c.clear.ensures
    c.place.result c.place.ensures v c.loop-next.focus c.loop-next.invariant.1 c.step.new.self c.in-Ok-Break.v
    (subst (λ (x : ControlFlow Place Focus). Stepped b (r.work.now.roots.top - 1) v c.loop-next.focus
    c.step.new.self (Ok x)) c.in-Ok-Break.field-0-is
    (c.in-Ok-Break.ensures (r.work.now.roots.top - 1) c.loop-next.invariant.1.ready)) c.stack.new.self c.stack.ensures

pub returns-in-Err-clause-normal : goal.returns-in-Err-clause-normal
returns-in-Err-clause-normal c =
    let r = c.args.self.now in
    let b = r.rules.now.book in
    stopped b r.work.now (down_in r) (honest_in r) c.requires c.truncate.new.self c.truncate.ensures c.clear.new.self c.clear.ensures
    c.place.result c.place.ensures c.loop-next.self.work.now c.loop-next.focus c.loop-next.invariant.1 c.step.new.self
    (c.in-Err.ensures (r.work.now.roots.top - 1) c.loop-next.invariant.1.ready) c.truncate-in-Err.new.self
    c.truncate-in-Err.ensures c.in-Err.e
