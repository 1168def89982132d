-- A rule that fails at the first part, and one that is matched as a whole.
use Rattle.std.proofs.Common.{◌≡◌, Some, length, ap, subst}
use Rattle.store.specs.Stores.{term_in}
use Rattle.books.specs.Books.{rule_in}
use Rattle.engine.specs.declared.types.Bindings.{Bindings}
use Rattle.engine.specs.Matching.{given, bound, MatchedOn}
use Rattle.engine.proofs.Matcher.{fresh_is, unbound}
use Rattle.engine.proofs.Trying.{other_part, left_pattern}
use Rattle.engine.proofs.rules.match_rule.Goals as goal

pub returns-then-not-first_parts_agree : goal.returns-then-not-first_parts_agree
returns-then-not-first_parts_agree c s g e =
    other_part c.args.book.now c.args.store.now c.args.p c.requires.0 c.args.i c.requires.1.low c.args.n c.if-n-gt0.true
    c.requires.1.shows _ c.rule.ensures.left (c.first_parts_agree.ensures c.if-not-first_parts_agree.true) s e

pub bind_pattern-requires-clause-pattern : goal.bind_pattern-requires-clause-pattern
bind_pattern-requires-clause-pattern c = (
  c.requires.0.inside,
  (
    _,
    _,
    left_pattern c.args.book.now c.args.i c.requires.1.low _ c.args.store.now c.args.p c.rule.ensures.left c.requires.0.fits,
  ),
)

pub bind_pattern-requires-clause-bindings : goal.bind_pattern-requires-clause-bindings
bind_pattern-requires-clause-bindings c = (
  ap length c.new.ensures,
  λ x q k. absurd (unbound x q (subst (λ (b : Bindings). bound b x ≡ Some q) (fresh_is c.new.result c.new.ensures) k)),
)

pub returns : goal.returns
returns c =
    subst (λ (b : Bindings). MatchedOn c.args.store.now b (rule_in c.args.book.now c.args.i).left (term_in c.args.store.now c.args.p.0)
    (given c.bind_pattern.result c.bind_pattern.new.bindings)) (fresh_is c.new.result c.new.ensures)
    (c.bind_pattern.ensures _ _
    (left_pattern c.args.book.now c.args.i c.requires.1.low _ c.args.store.now c.args.p c.rule.ensures.left c.requires.0.fits))
