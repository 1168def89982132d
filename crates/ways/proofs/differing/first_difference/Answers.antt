-- The first part that passes the test.
use Rattle.std.proofs.Common.{◌≡◌, ◌≢◌, rules, tests}
use Rattle.std.proofs.lemmas.Iterator.{first_from_Range}
use Rattle.store.specs.Stores.{part_in}
use Rattle.ways.proofs.differing.first_difference.Goals as goal

pub returns : goal.returns
returns c =
    first_from_Range _ _ _ _ (λ k. part_in c.args.store.now c.args.p.0 k ≢ part_in c.args.store.now c.args.q.0 k)
    (λ k. part_in c.args.store.now c.args.p.0 k ≡ part_in c.args.store.now c.args.q.0 k) c.find.ensures.ran
    (λ k q h. search (rules, tests)) (λ k q h. search (rules, tests))
