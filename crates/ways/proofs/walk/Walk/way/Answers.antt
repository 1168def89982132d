-- The left side, the terms of the way, and the right side.
use Rattle.std.proofs.Common.{Some, sym, subst}
use Rattle.store.specs.Stores.{held}
use Rattle.ways.specs.Showing.{WayTold}
use Rattle.ways.proofs.Following.{kept_then, rule_on, right_on, followed_on, right_row, way_told}
use Rattle.ways.proofs.walk.Walk.way.Goals as goal

pub returns-in_err-end-clause-kept : goal.returns-in_err-end-clause-kept
returns-in_err-end-clause-kept c =
    kept_then c.args.self.now c.begin.new.self c.follow.new.self c.begin.ensures.kept c.follow.ensures.kept

pub is_held-requires-clause-row : goal.is_held-requires-clause-row
is_held-requires-clause-row c =
    let w = c.args.self.now in
    let x = c.follow.new.self in
    let on = kept_then w c.begin.new.self x c.begin.ensures.kept c.follow.ensures.kept in
    (_, right_row x.book.now c.args.i (rule_on w x on c.args.i c.requires) _ c.rule.ensures.right)

pub returns-clause-kept : goal.returns-clause-kept
returns-clause-kept c =
    let w = c.args.self.now in
    let x = c.follow.new.self in
    kept_then w x c.is_held.new.self (kept_then w c.begin.new.self x c.begin.ensures.kept c.follow.ensures.kept) c.is_held.ensures.kept

pub returns-clause-told : goal.returns-clause-told
returns-clause-told c =
    let w = c.args.self.now in
    let x = c.follow.new.self in
    let end = c.in_ok-end.end in
    let on = kept_then w c.begin.new.self x c.begin.ensures.kept c.follow.ensures.kept in
    let same = c.is_held.ensures.told _ (right_row x.book.now c.args.i
    (rule_on w x on c.args.i c.requires) _ c.rule.ensures.right) in
    subst (WayTold w.book.now w.ways.now c.args.from c.args.count _) (sym c.then_some.ensures)
    (way_told w.book.now w.ways.now c.args.i _ c.begin.ensures.term c.args.from c.args.count _ end
    (followed_on w c.begin.new.self c.begin.ensures.kept c.args.from c.args.count _ _ (Some end) c.in_ok-end.ensures.told)
    c.is_held.result (right_on w x on c.args.i (held x.store.now x.roots.now 0) c.is_held.result same))
