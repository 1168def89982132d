-- Two nodes of one class: they clash, or parts of them differ, or none.
use Rattle.std.proofs.Common.{◌≡◌, rules, sym, ◌∙◌, subst, arith}
use Rattle.store.specs.Stores.{Shows}
use Rattle.store.proofs.Sounds.{sound_in}
use Rattle.unification.specs.Classes.{IsSign}
use Rattle.unification.proofs.Checking.{clash_by, forced, closed_by}
use Rattle.unification.proofs.closing.Closing.check_at.Goals as goal

pub returns-then-ne : goal.returns-then-ne
returns-then-ne c =
    let s = c.args.self.now in
    clash_by s.store.now s.classes s.labelled c.args.p.0 c.known_by-q.result.0 (omega arith) c.known_by-q.ensures.label
    c.view-node.result c.view.result (subst IsSign (sym c.in-Sign.ensures.2) tt) (λ e. search rules) c.view-node.ensures c.view.ensures

pub returns : goal.returns
returns c =
    let s = c.args.self.now in
    let same : c.view-node.result ≡ c.view.result = search rules in
    forced s.store.now s.classes s.labelled c.args.p.0 c.known_by-q.result.0 (omega arith) c.known_by-q.ensures.label
    (sound_in s.store.now) c.in-Sign.field-0 c.in-Sign.n
    (subst (Shows s.store.now c.args.p.0) c.in-Sign.is c.view-node.ensures)
    (subst (Shows s.store.now c.known_by-q.result.0) (sym same ∙ c.in-Sign.is) c.view.ensures)
    c.in-Some.k c.part.result c.part-2.result c.in-Some.ensures.low c.part.ensures.is c.part-2.ensures.is c.in-Some.ensures.differ

pub returns-in_default-first_difference : goal.returns-in_default-first_difference
returns-in_default-first_difference c =
    let s = c.args.self.now in
    let same : c.view-node.result ≡ c.view.result = search rules in
    closed_by s.store.now s.classes s.labelled c.args.p.0 c.known_by-q.result.0 (omega arith) c.known_by-q.ensures.label
    (sound_in s.store.now) c.in-Sign.field-0 c.in-Sign.n
    (subst (Shows s.store.now c.args.p.0) c.in-Sign.is c.view-node.ensures)
    (subst (Shows s.store.now c.known_by-q.result.0) (sym same ∙ c.in-Sign.is) c.view.ensures)
    c.in_default-first_difference.ensures
