-- Each letter is bound, or one is not.
use Rattle.std.proofs.Common.{◌≡◌, length, true, false, is_some, arith, rules, tests}
use Rattle.std.proofs.lemmas.Iterator.{cases_from_all, YieldsList-from_slice}
use Rattle.unification.proofs.Lettering.{bound_or_not}
use Rattle.unification.proofs.letters.all_bound.Goals as goal

pub returns : goal.returns
returns c =
    let b = c.args.letters.now in
    let long : length b.at ≡ 32 = omega arith in
    bound_or_not b c.all.result long (cases_from_all _ _ c.all.result (λ o. is_some o ≡ true) (λ o. is_some o ≡ false)
    c.all.ensures.ran (YieldsList-from_slice b.at cc) (λ x q k. search (rules, tests)) (λ x q k. search (rules, tests)))
