-- A rule is found, and used in one of two ways.
use Rattle.std.proofs.Common.{refl, arith}
use Rattle.books.specs.Books.{told}
use Rattle.engine.proofs.Honesty.{holding_grown}
use Rattle.engine.proofs.Opening.{few_of, filled, opening_arity, opening_few, by_opening}
use Rattle.engine.proofs.Trying.{by_this_rule}
use Rattle.engine.proofs.Turned.{eval_rewritable, eval_turned}
use Rattle.engine.proofs.work.Work.by_rule.Goals as goal

pub find_rule-requires : goal.find_rule-requires
find_rule-requires c =
    eval_rewritable c.args.book.now c.requires.can_turn.0 c.args.self.now.store c.args.self.now.roots c.args.self.now.frames c.args.p
    c.requires.can_turn.1

pub opening_with_space-requires : goal.opening_with_space-requires
opening_with_space-requires c =
    let w = c.args.self.now in (
      _,
      (filled c.args.book.now _ w.store w.roots w.frames c.args.p c.requires.can_turn.1 _ c.find_rule.new.bindings c.in_ok-i.ensures _ _
          refl c.rule.ensures.right).row,
    )

pub row_instance-q-requires-clause-few_parts : goal.row_instance-q-requires-clause-few_parts
row_instance-q-requires-clause-few_parts c =
    let w = c.args.self.now in (
      few_of c.args.book.now _ c.parts.ensures,
      (
        _,
        filled c.args.book.now _ w.store w.roots w.frames c.args.p c.requires.can_turn.1 _ c.find_rule.new.bindings c.in_ok-i.ensures _ _
            c.parts.ensures c.rule.ensures.right,
      ),
    )

pub returns-in_default : goal.returns-in_default
returns-in_default c low ready =
    let k = c.args.book.now in let st = c.args.self.now.store in let found = c.in_ok-i.ensures in
    let q = c.args.self.now.roots in let fr = c.args.self.now.frames in
    let made = c.row_instance-q.ensures _ (filled k low st q fr c.args.p ready _ c.find_rule.new.bindings c.in_ok-i.ensures _ _
    c.parts.ensures c.rule.ensures.right) in
    eval_turned k low st q fr c.args.p ready c.row_instance-q.new.store _
    (holding_grown (told k).rules st c.row_instance-q.new.store ready.running.honest made.sound made.grown)
    (by_this_rule k st c.args.p (eval_rewritable k low st q fr c.args.p ready) c.in_ok-i.i found.low c.find_rule.new.bindings
    c.row_instance-q.new.store c.row_instance-q.result found made)

pub row_parts-places-requires-clause-few_parts : goal.row_parts-places-requires-clause-few_parts
row_parts-places-requires-clause-few_parts c =
    let w = c.args.self.now in (
      few_of c.args.book.now _ c.parts-2.ensures,
      (
        _,
        filled c.args.book.now _ w.store w.roots w.frames c.args.p c.requires.can_turn.1 _ c.find_rule.new.bindings c.in_ok-i.ensures _ _
            c.parts-2.ensures c.rule.ensures.right,
      ),
    )

pub row_parts-places-requires-clause-arity : goal.row_parts-places-requires-clause-arity
row_parts-places-requires-clause-arity c =
    let k = c.args.book.now in let w = c.args.self.now in
    let f = filled k _ w.store w.roots w.frames c.args.p c.requires.can_turn.1 _ c.find_rule.new.bindings c.in_ok-i.ensures _ _ refl
    c.rule.ensures.right in (
      opening_few (told k).parts _ _ f.row c.in-Some.g c.in-Some.n c.in-Some.ensures.opening (few_of k _ refl),
      λ t h. opening_arity (told k).parts _ t (rw c.parts-2.ensures at h.row) c.in-Some.g c.in-Some.n c.in-Some.ensures.opening,
    )

pub begin-requires-clause-few : goal.begin-requires-clause-few
begin-requires-clause-few c =
    let k = c.args.book.now in let w = c.args.self.now in
    let f = filled k _ w.store w.roots w.frames c.args.p c.requires.can_turn.1 _ c.find_rule.new.bindings c.in_ok-i.ensures _ _ refl
    c.rule.ensures.right in
    omega (arith, opening_few (told k).parts _ _ f.row c.in-Some.g c.in-Some.n c.in-Some.ensures.opening (few_of k _ refl))

pub returns : goal.returns
returns c low ready =
    let k = c.args.book.now in let st = c.args.self.now.store in let found = c.in_ok-i.ensures in
    let q = c.args.self.now.roots in let fr = c.args.self.now.frames in
    let can = filled k low st q fr c.args.p ready _ c.find_rule.new.bindings c.in_ok-i.ensures in
    let f = can _ _ refl c.rule.ensures.right in
    by_opening k low st q fr c.args.p ready.running c.in_ok-i.i c.find_rule.new.bindings found c.rule.result.right.now c.in-Some.g
    c.in-Some.n f.row c.in-Some.ensures.opening
    (opening_few (told k).parts _ _ f.row c.in-Some.g c.in-Some.n c.in-Some.ensures.opening (few_of k _ refl))
    c.row_parts-places.new.store c.row_parts-places.result (c.row_parts-places.ensures _ (can _ _ c.parts-2.ensures c.rule.ensures.right))
    c.requires.space.roots c.begin.new.self c.begin.result c.begin.ensures
