-- No rule matches a letter; from one rule with the term's top sign to the next; the first that matches; and none at all.
use Rattle.std.proofs.Common.{Bool, subst}
use Rattle.store.specs.Stores.{term_in}
use Rattle.books.specs.Books.{rule_in}
use Rattle.engine.specs.Matching.{given, MatchedOn, nothing}
use Rattle.engine.proofs.Matcher.{none_first, instance_first}
use Rattle.engine.proofs.Trying.{no_letter, still, still_before, Tried, sign_low, first_tried, more_tried, fewer_left}
use Rattle.engine.proofs.rules.find_rule.Goals as goal

pub returns-in_default : goal.returns-in_default
returns-in_default c = still c.args.book.now c.args.store.now c.args.p c.requires
    (λ i low. no_letter c.args.book.now c.args.store.now c.args.p c.requires i low
    c.in_default.field-0 c.in_default.ensures.1)

pub first_with-next-requires : goal.first_with-next-requires
first_with-next-requires c = sign_low c.args.book.now c.args.store.now c.args.p c.requires c.in-Sign.f c.in-Sign.n c.in-Sign.ensures

pub loop-next-init : goal.loop-next-init
loop-next-init c =
    first_tried c.args.book.now c.args.store.now c.args.p c.requires c.in-Sign.f c.in-Sign.n c.in-Sign.ensures
    c.first_with-next.result c.first_with-next.ensures

pub returns-then-match_rule : goal.returns-then-match_rule
returns-then-match_rule c =
    let k = c.args.book.now in
    let tried = subst (Tried k c.args.store.now c.args.p c.in-Sign.f) c.in-Some.is c.loop-next.invariant in
    record {
      low = tried.0;
      fits = instance_first c.args.store.now _ _ c.match_rule.new.bindings
          (subst (λ (x : Bool). MatchedOn c.args.store.now nothing (rule_in k c.in-Some.i).left (term_in c.args.store.now c.args.p.0)
          (given x c.match_rule.new.bindings)) c.if-match_rule.true c.match_rule.ensures);
      first = still_before k c.args.store.now c.args.p c.requires c.in-Some.i tried.2;
    }

pub loop-next-smaller : goal.loop-next-smaller
loop-next-smaller c =
    let k = c.args.book.now in
    let tried = subst (Tried k c.args.store.now c.args.p c.in-Sign.f) c.in-Some.is c.loop-next.invariant in
    rw c.in-Some.is (fewer_left k c.args.store.now c.args.p c.requires c.in-Sign.f c.in-Sign.n c.in-Sign.ensures
    c.in-Some.i tried c.next_like-next.result c.next_like-next.ensures k.layout.rules k.laid.rules)

pub loop-next-preserved : goal.loop-next-preserved
loop-next-preserved c =
    let k = c.args.book.now in
    let tried = subst (Tried k c.args.store.now c.args.p c.in-Sign.f) c.in-Some.is c.loop-next.invariant in
    more_tried k c.args.store.now c.args.p c.requires c.in-Sign.f c.in-Sign.n c.in-Sign.ensures
    c.in-Some.i tried c.next_like-next.result c.next_like-next.ensures
    (none_first c.args.store.now _ _ c.if-match_rule.ensures)

pub returns : goal.returns
returns c =
    let k = c.args.book.now in
    still k c.args.store.now c.args.p c.requires
    (subst (Tried k c.args.store.now c.args.p c.in-Sign.f) c.in_default-next.is c.loop-next.invariant)
