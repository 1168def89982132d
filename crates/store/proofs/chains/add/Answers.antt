-- Pushed, and its note cleared.
use Rattle.std.proofs.Common.{arith}
use Rattle.store.proofs.Placing.{one_more}
use Rattle.store.proofs.chains.add.Goals as goal

pub returns : goal.returns
returns c = one_more c.args.mask c.args.ws.now c.args.n c.args.key.now c.push.new.ws c.put.new.ws c.requires.shared.0 c.requires.shared.1
    c.requires.new.0 c.requires.new.1 c.push.ensures c.put.ensures (omega arith) (omega arith) (omega arith)
