-- None, one or two parts differ.
use Rattle.std.proofs.Common.{◌≡◌, rules, sym, ◌∙◌, subst}
use Rattle.store.specs.Stores.{Shows}
use Rattle.ways.specs.Steps.{OnlyDifference}
use Rattle.ways.proofs.Parting.{other_nodes, no_difference, first_or_only}
use Rattle.ways.proofs.differing.only_difference.Goals as goal

pub returns-then-ne : goal.returns-then-ne
returns-then-ne c = other_nodes c.args.store.now c.args.p c.args.q c.view-node.result c.view.result (λ e. search rules)
    c.view-node.ensures c.view.ensures

pub returns-in_err-k : goal.returns-in_err-k
returns-in_err-k c =
    let same : c.view-node.result ≡ c.view.result = search rules in
    subst (OnlyDifference c.args.store.now c.args.p c.args.q) (sym c.from_residual.ensures)
    (no_difference c.args.store.now c.args.p c.args.q c.requires.0 c.requires.1 c.in-Sign.field-0 c.in-Sign.n
    (subst (Shows c.args.store.now c.args.p.0) c.in-Sign.is c.view-node.ensures)
    (subst (Shows c.args.store.now c.args.q.0) (sym same ∙ c.in-Sign.is) c.view.ensures) c.in_err-k.ensures)

pub returns : goal.returns
returns c =
    let same : c.view-node.result ≡ c.view.result = search rules in
    let k = c.in_ok-k.ensures in
    first_or_only c.args.store.now c.args.p c.args.q c.requires.0 c.requires.1 c.in-Sign.field-0 c.in-Sign.n
    (subst (Shows c.args.store.now c.args.p.0) c.in-Sign.is c.view-node.ensures)
    (subst (Shows c.args.store.now c.args.q.0) (sym same ∙ c.in-Sign.is) c.view.ensures)
    c.in_ok-k.k k.1 k.2 k.3 _ _ c.first_difference-later.ensures c.is_none.ensures _ c.then_some.ensures
