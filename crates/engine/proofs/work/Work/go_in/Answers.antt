-- The frame and its roots are there.
use Rattle.books.specs.Books.{told}
use Rattle.engine.proofs.Entering.{gone_in}
use Rattle.engine.proofs.work.Work.go_in.Goals as goal

pub returns : goal.returns
returns c k low ready =
    gone_in (told k).rules low c.args.self.now.store c.args.self.now.roots c.args.self.now.frames c.args.p c.args.f c.args.n
    c.part-first.result c.push_others.new.roots c.push.new.self ready.running c.requires.arity.0 c.requires.arity.1
    c.requires.sign c.part-first.ensures.is c.requires.space c.push_others.ensures c.push.ensures
