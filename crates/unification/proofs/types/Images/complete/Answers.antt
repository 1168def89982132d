-- Each class has an image, or one has none.
use Rattle.std.proofs.Common.{◌≡◌, true, false, is_some, refl, arith, rules, tests}
use Rattle.std.proofs.lemmas.Iterator.{cases_from_all, YieldsList-from_range}
use Rattle.unification.specs.Classes.{label}
use Rattle.unification.specs.Images.{image}
use Rattle.unification.proofs.Built.{complete_or_not}
use Rattle.unification.proofs.types.Images.complete.Goals as goal

pub returns : goal.returns
returns c =
    let m = c.args.self.now in
    let d = c.args.classes.now in
    complete_or_not d m c.args.n c.all.result (cases_from_all _ _ c.all.result (λ i. is_some (image m (label d i)) ≡ true)
    (λ i. is_some (image m (label d i)) ≡ false) c.all.ensures.ran (YieldsList-from_range 0 c.args.n c.args.n refl (omega arith))
    (λ x q k. search (rules, tests)) (λ x q k. search (rules, tests)))
