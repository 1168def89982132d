-- The roots are kept by both tries, and by the collection between them.
use Rattle.std.proofs.Common.{◌≡◌, ℕ, ◌≤◌, ◌∙◌, subst, arith}
use Rattle.store.specs.Keys.{key_term}
use Rattle.store.specs.Stores.{parts_held}
use Rattle.store.specs.Making.{root_term}
use Rattle.store.proofs.Placing.{gathered_term, roots_same, roots_grown, roots_then, parts_same, placed, carried_grown, carried_then}
use Rattle.store.proofs.types.Store.place.Goals as goal

pub returns-in-Some-clause-carried : goal.returns-in-Some-clause-carried
returns-in-Some-clause-carried c = carried_grown c.args.self.now c.intern.new.self c.in-Some.ensures.grown

pub returns-in-Some-clause-place : goal.returns-in-Some-clause-place
returns-in-Some-clause-place c =
    let a = c.args.self.now in let q = c.args.roots.now in let o = c.args.plan in let m = c.in-Some.ensures in (
      m.place.0,
      m.place.1 ∙ gathered_term a a o.head o.from q q o.order c.gather-key.result c.gather-key.ensures (omega arith) (omega arith)
          (roots_same a q c.requires.inside),
    )

pub returns-clause-carried : goal.returns-clause-carried
returns-clause-carried c =
    let a = c.args.self.now in let b = c.intern.new.self in let d = c.collect.new.self in let e = c.intern-2.new.self in
    carried_then a b e (carried_grown a b c.intern.ensures.grown)
    (carried_then b d e c.collect.ensures.carried (carried_grown d e c.intern-2.ensures.grown))

pub returns-clause-place : goal.returns-clause-place
returns-clause-place c =
    let a = c.args.self.now in let b = c.intern.new.self in let d = c.collect.new.self in let e = c.intern-2.new.self in
    let q = c.args.roots.now in let r = c.collect.new.roots in let o = c.args.plan in let key = c.gather-moved.result in
    let k = c.collect.ensures in
    let first = roots_grown a a b q q (roots_same a q c.requires.inside) c.intern.ensures.grown in
    let second = roots_then a b d q q r first k.roots in
    let count : d.count ≤ parts_held a q = subst (λ (x : ℕ). d.count ≤ x) (parts_same a b q first) k.count in
    let room : d.room ≡ a.room = k.room ∙ c.intern.ensures.grown.room in
    placed a d e q (key_term d.words.now key) (root_term a o.head q o.order o.from) c.intern-2.result
    (gathered_term a d o.head o.from q r o.order key c.gather-moved.ensures (omega arith) (omega arith) second)
    room count k.limit c.intern-2.ensures.place
