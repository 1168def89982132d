-- The first part at which the classes differ, if any.
use Rattle.std.proofs.Common.{◌≡◌, rules, tests}
use Rattle.std.proofs.lemmas.Iterator.{first_from_Range}
use Rattle.store.specs.Stores.{part_in}
use Rattle.unification.specs.Classes.{label}
use Rattle.unification.proofs.Checking.{difference_or_none}
use Rattle.unification.proofs.closing.Closing.first_difference.Goals as goal

pub returns : goal.returns
returns c =
    let st = c.args.self.now.store.now in
    let d = c.args.self.now.classes in
    difference_or_none st d c.args.p.0 c.args.q.0 c.args.n c.find.result (first_from_Range _ _ _ c.find.result
    (λ k. label d (part_in st c.args.p.0 k) ≡ label d (part_in st c.args.q.0 k) → ⊥)
    (λ k. label d (part_in st c.args.p.0 k) ≡ label d (part_in st c.args.q.0 k))
    c.find.ensures.ran (λ x q k. search (rules, tests)) (λ x q k. search (rules, tests)))
