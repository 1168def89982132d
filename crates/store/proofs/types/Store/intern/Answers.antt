-- Found, it is there.
use Rattle.store.proofs.Telling.{holds_term}
use Rattle.store.proofs.types.Store.intern.Goals as goal

pub returns-in-Some-clause-place : goal.returns-in-Some-clause-place
returns-in-Some-clause-place c =
    let f = c.in-Some.ensures in let a = c.args.self.now in
    (f.0, holds_term a.words.now a.count c.in-Some.i c.args.key.now a.shared.shape f.0 f.1)
