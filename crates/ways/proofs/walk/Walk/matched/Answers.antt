-- The left side is matched from no bindings on, and the right side from those of the left.
use Rattle.std.proofs.Common.{◌≡◌, Bool, None, Some, length, ap, subst}
use Rattle.store.specs.Stores.{term_in}
use Rattle.books.specs.Books.{equation_in}
use Rattle.engine.specs.declared.types.Bindings.{Bindings}
use Rattle.engine.specs.Matching.{bound, given, MatchedOn}
use Rattle.engine.proofs.Matcher.{fresh_is, unbound}
use Rattle.ways.proofs.Topping.{left_pattern, right_pattern, first_matched, left_fails, both_matched}
use Rattle.ways.proofs.walk.Walk.matched.Goals as goal

pub bind_pattern-requires-clause-pattern : goal.bind_pattern-requires-clause-pattern
bind_pattern-requires-clause-pattern c =
    let can = c.requires.0 in (
      can.left,
      (
        _,
        _,
        left_pattern c.args.self.now.book.now c.args.self.now.store.now c.args.p c.args.q can c.args.i
            c.requires.1 _ c.equation.ensures.left,
      ),
    )

pub bind_pattern-requires-clause-bindings : goal.bind_pattern-requires-clause-bindings
bind_pattern-requires-clause-bindings c = (
  ap length c.new-bindings.ensures,
  λ x r k. absurd (unbound x r (subst (λ (b : Bindings). bound b x ≡ Some r) (fresh_is c.new-bindings.result c.new-bindings.ensures) k)),
)

pub bind_pattern-requires-then-bind_pattern-clause-pattern : goal.bind_pattern-requires-then-bind_pattern-clause-pattern
bind_pattern-requires-then-bind_pattern-clause-pattern c =
    let can = c.requires.0 in (
      can.right,
      (
        _,
        _,
        right_pattern c.args.self.now.book.now c.args.self.now.store.now c.args.p c.args.q can c.args.i c.requires.1 _
            c.equation.ensures.right,
      ),
    )

pub bind_pattern-requires-then-bind_pattern-clause-bindings : goal.bind_pattern-requires-then-bind_pattern-clause-bindings
bind_pattern-requires-then-bind_pattern-clause-bindings c =
    let a = c.args.self.now.store.now in
    let e = equation_in c.args.self.now.book.now c.args.i in
    let now = c.bind_pattern.new.bindings in
    let first = first_matched a e (term_in a c.args.p.0) (term_in a c.args.q.0) c.new-bindings.result c.new-bindings.ensures (Some now)
    (subst (λ (x : Bool). MatchedOn a c.new-bindings.result e.left (term_in a c.args.p.0) (given x now)) c.if-bind_pattern.true
    (c.bind_pattern.ensures _ _ (left_pattern c.args.self.now.book.now a c.args.p c.args.q c.requires.0 c.args.i c.requires.1 _
    c.equation.ensures.left))) in
    (first.full, first.inside)

pub returns-else-bind_pattern : goal.returns-else-bind_pattern
returns-else-bind_pattern c =
    let a = c.args.self.now.store.now in
    let e = equation_in c.args.self.now.book.now c.args.i in
    let now = c.bind_pattern.new.bindings in
    left_fails a e (term_in a c.args.p.0) (term_in a c.args.q.0)
    (first_matched a e (term_in a c.args.p.0) (term_in a c.args.q.0) c.new-bindings.result c.new-bindings.ensures None
    (subst (λ (x : Bool). MatchedOn a c.new-bindings.result e.left (term_in a c.args.p.0) (given x now)) c.if-bind_pattern.false
    (c.bind_pattern.ensures _ _ (left_pattern c.args.self.now.book.now a c.args.p c.args.q c.requires.0 c.args.i c.requires.1 _
    c.equation.ensures.left)))) _ c.if-bind_pattern.false

pub returns-then-bind_pattern : goal.returns-then-bind_pattern
returns-then-bind_pattern c =
    let a = c.args.self.now.store.now in
    let e = equation_in c.args.self.now.book.now c.args.i in
    let now = c.bind_pattern.new.bindings in
    let first = first_matched a e (term_in a c.args.p.0) (term_in a c.args.q.0) c.new-bindings.result c.new-bindings.ensures (Some now)
    (subst (λ (x : Bool). MatchedOn a c.new-bindings.result e.left (term_in a c.args.p.0) (given x now)) c.if-bind_pattern.true
    (c.bind_pattern.ensures _ _ (left_pattern c.args.self.now.book.now a c.args.p c.args.q c.requires.0 c.args.i c.requires.1 _
    c.equation.ensures.left))) in
    both_matched a e (term_in a c.args.p.0) (term_in a c.args.q.0) now first c.bind_pattern-then-bind_pattern.result
    c.bind_pattern-then-bind_pattern.new.bindings
    (c.bind_pattern-then-bind_pattern.ensures _ _
    (right_pattern c.args.self.now.book.now a c.args.p c.args.q c.requires.0 c.args.i c.requires.1 _ c.equation.ensures.right))
