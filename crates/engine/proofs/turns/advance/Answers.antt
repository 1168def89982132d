-- A known normal form, or a rule.
use Rattle.books.specs.Books.{told}
use Rattle.engine.proofs.Advancing.{by_known, by_step}
use Rattle.engine.proofs.turns.advance.Goals as goal

pub returns-in-Some : goal.returns-in-Some
returns-in-Some c =
    let rs = (told c.args.book.now).rules in
    by_known rs c.args.store.now c.args.p c.in-Some.q c.requires.honest (c.in-Some.ensures rs c.requires.honest)

pub returns : goal.returns
returns c =
    by_step (told c.args.book.now).rules c.args.store.now c.args.p c.rewrite.new.store c.in_ok-q.q c.requires.honest c.in_ok-q.ensures
