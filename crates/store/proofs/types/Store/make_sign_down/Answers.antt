-- Its parts are the roots from the uppermost down.
use Rattle.std.proofs.Common.{refl, ap}
use Rattle.rewriting.specs.Terms.{sign}
use Rattle.store.proofs.Placing.{made_is, parts_down}
use Rattle.store.proofs.types.Store.make_sign_down.Goals as goal

pub returns : goal.returns
returns c =
    let a = c.args.self.now in let q = c.args.roots.now in
    made_is a q _ _ _ c.make_sign_by.new.self c.make_sign_by.new.roots c.make_sign_by.result
    (ap (sign c.args.f) (parts_down a q _ _ c.args.n refl)) c.make_sign_by.ensures
