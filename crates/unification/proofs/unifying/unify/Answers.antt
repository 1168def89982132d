-- The least replacement, or none.
use Rattle.std.proofs.Common.{arith}
use Rattle.unification.proofs.Built.{building_first}
use Rattle.unification.proofs.Checking.{closure_ok}
use Rattle.unification.proofs.Uniting.{never_one, unifier_is}
use Rattle.unification.proofs.unifying.unify.Goals as goal

pub build-requires : goal.build-requires
build-requires c =
    let r = c.requires.0 in
    let w = closure_ok c.args.store.now c.args.p c.args.q c.close.result c.in_ok-classes.classes c.close.ensures
    c.in_ok-classes.ensures.value in
    building_first c.args.store.now c.in_ok-classes.classes c.new-images.result r.sound r.few r.space w.labelled c.new-images.ensures

pub returns-then-not-complete-clause-unified : goal.returns-then-not-complete-clause-unified
returns-then-not-complete-clause-unified c =
    let x = c.if-not-complete.ensures in
    never_one c.args.store.now c.build.new.store c.args.p c.args.q c.in_ok-classes.classes c.new-images.result c.build.new.images
    (closure_ok c.args.store.now c.args.p c.args.q c.close.result c.in_ok-classes.classes c.close.ensures
    c.in_ok-classes.ensures.value) c.build.ensures.built c.build.ensures.told x.0 x.1

pub bind_letters-requires : goal.bind_letters-requires
bind_letters-requires c x l =
    let r = c.requires.0 in
    let h = r.letters x l in
    let w = closure_ok c.args.store.now c.args.p c.args.q c.close.result c.in_ok-classes.classes c.close.ensures
    c.in_ok-classes.ensures.value in
    let k = w.labelled.low h.0.0 h.2 in
    (h.0, h.1, omega (arith, r.few, h.2), omega (arith, r.few))

pub returns-clause-unified : goal.returns-clause-unified
returns-clause-unified c =
    unifier_is c.args.store.now c.build.new.store c.args.p c.args.q c.in_ok-classes.classes c.new-images.result c.build.new.images
    (closure_ok c.args.store.now c.args.p c.args.q c.close.result c.in_ok-classes.classes c.close.ensures
    c.in_ok-classes.ensures.value) c.build.ensures.built c.args.letters.now c.bind_letters.result c.requires.0
    c.if-not-complete.ensures c.bind_letters.ensures (omega arith) (omega arith)
