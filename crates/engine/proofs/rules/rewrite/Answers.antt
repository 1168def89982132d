-- The rule that was found is used.
use Rattle.std.proofs.Common.{sym, ◌∙◌, arith}
use Rattle.books.proofs.Building.{book_parts}
use Rattle.books.proofs.Heads.{head_of}
use Rattle.books.specs.Books.{told}
use Rattle.engine.proofs.Trying.{right_bound, right_fillable, by_this_rule}
use Rattle.engine.proofs.rules.rewrite.Goals as goal

pub row_instance-requires-clause-few_parts : goal.row_instance-requires-clause-few_parts
row_instance-requires-clause-few_parts c =
    let k = c.args.book.now in
    let found = c.in_ok-i.ensures in (
      book_parts k.words.now (told k) k.reads _ (c.parts.ensures ∙ sym (head_of k.words.now (told k) k.reads).parts),
      (
        _,
        right_fillable k c.in_ok-i.i found.low _ _ c.find_rule.new.bindings c.parts.ensures c.rule.ensures.right
            (right_bound k c.args.store.now c.args.p c.requires.0 c.in_ok-i.i found.low c.find_rule.new.bindings found.fits),
      ),
    )

pub returns : goal.returns
returns c =
    let k = c.args.book.now in
    let found = c.in_ok-i.ensures in
    let f = right_fillable k c.in_ok-i.i found.low _ _ c.find_rule.new.bindings c.parts.ensures c.rule.ensures.right
    (right_bound k c.args.store.now c.args.p c.requires.0 c.in_ok-i.i found.low c.find_rule.new.bindings found.fits) in
    let made = c.row_instance.ensures _ f in
    record {
      sound = made.sound;
      grown = made.grown;
      few = omega (arith, made.few, f.small);
      result = by_this_rule k c.args.store.now c.args.p c.requires.0 c.in_ok-i.i found.low
          c.find_rule.new.bindings c.row_instance.new.store c.row_instance.result found made;
    }
