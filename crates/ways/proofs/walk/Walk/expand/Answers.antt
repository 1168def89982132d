-- The parts of a sign come in its place.
use Rattle.std.proofs.Common.{◌≡◌, ℕ, ◌-◌, sym, ap, ◌∙◌}
use Rattle.rewriting.specs.Terms.{sign}
use Rattle.store.specs.Stores.{term_in, parts_in, held}
use Rattle.ways.proofs.Stepping.{sign_expanded}
use Rattle.ways.proofs.walk.Walk.expand.Goals as goal

pub unwrap-requires : goal.unwrap-requires
unwrap-requires c =
    let a = c.args.self.now.store.now in
    let q = c.args.self.now.roots.now in
    let p = c.place-p.result.0 in
    let e : held a q (q.top - 1) ≡ sign c.in-Sign.field-0 (parts_in a p c.in-Sign.n) =
    ap (λ (j : ℕ). term_in a j) (sym c.place-p.ensures) ∙ c.in-Sign.ensures.2 in
    (sign_expanded a q c.truncate.new.self c.truncate.ensures c.requires.root.0 c.requires.root.1 p c.in-Sign.field-0
    c.in-Sign.n e c.requires.has_roots c.push_parts.new.roots c.push_parts.result c.push_parts.ensures).0

pub returns-in-Sign-clause-expanded : goal.returns-in-Sign-clause-expanded
returns-in-Sign-clause-expanded c =
    let a = c.args.self.now.store.now in
    let q = c.args.self.now.roots.now in
    let p = c.place-p.result.0 in
    let e : held a q (q.top - 1) ≡ sign c.in-Sign.field-0 (parts_in a p c.in-Sign.n) =
    ap (λ (j : ℕ). term_in a j) (sym c.place-p.ensures) ∙ c.in-Sign.ensures.2 in
    (sign_expanded a q c.truncate.new.self c.truncate.ensures c.requires.root.0 c.requires.root.1 p c.in-Sign.field-0
    c.in-Sign.n e c.requires.has_roots c.push_parts.new.roots c.push_parts.result c.push_parts.ensures).1
