-- Equal places have equal terms.
use Rattle.std.proofs.Common.{refl}
use Rattle.engine.proofs.Comparing.{one_term}
use Rattle.engine.proofs.reducer.Reducer.compare_roots.Goals as goal

pub returns-then-same-clause-compared : goal.returns-then-same-clause-compared
returns-then-same-clause-compared c =
    let r = c.args.self.now in
    one_term r.rules.now.book r.work.now c.place.result.0 c.place-2.result.0 c.place.ensures c.place-2.ensures
    (c.if-same.ensures.yes refl)
