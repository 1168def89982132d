-- No element is among those before it.
use Rattle.std.proofs.Common.{true, false, rules, tests}
use Rattle.std.proofs.lemmas.Iterator.{cases_from_all, YieldsList-from_slice}
use Rattle.std.proofs.lemmas.Iterator.Consumers.{YieldsList-from_enumerate}
use Rattle.books.proofs.Differing.{Before, differ}
use Rattle.books.proofs.book.all_differ.Goals as goal

pub returns : goal.returns
returns c =
    let xs = c.args.xs.now in
    differ xs c.all.result (cases_from_all _ _ c.all.result (Before xs false) (Before xs true) c.all.ensures.ran
    (YieldsList-from_enumerate (YieldsList-from_slice xs (search rules)) (search rules))
    (λ x q h. search (rules, tests)) (λ x q h. search (rules, tests)))
