-- No rule can be used: it is a normal form.
use Rattle.books.specs.Books.{told}
use Rattle.engine.proofs.Advancing.{apply_none}
use Rattle.engine.proofs.turns.apply.Goals as goal

pub returns : goal.returns
returns c =
    apply_none (told c.args.book.now).rules c.args.store.now c.args.p c.advance.new.store c.set_normal.new.self
    c.requires.done c.requires.rewritable.inside c.in_default.ensures c.set_normal.ensures
