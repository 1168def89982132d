-- The next part is worked at.
use Rattle.engine.proofs.Turned.{on_turned}
use Rattle.engine.proofs.work.Work.go_on.Goals as goal

pub returns : goal.returns
returns c k low ready =
    on_turned k low c.args.self.now.store c.args.self.now.roots c.args.self.now.frames c.args.v ready c.requires.0.some c.args.frame
    c.requires.0.is
    c.place-next.result c.set.new.self c.go_on.new.self c.requires.1 c.place-next.ensures c.set.ensures
    c.go_on.ensures
