-- No room for 33 slots.
use Rattle.engine.proofs.Spaced.{collected_none}
use Rattle.engine.proofs.work.Work.collect.Goals as goal

pub returns-in-Err : goal.returns-in-Err
returns-in-Err c =
    collected_none c.args.self.now.store c.args.self.now.roots c.args.p c.stack.new.self c.stack.ensures
    c.reserve.new.self c.reserve.new.roots c.in-Err.full c.in-Err.ensures c.truncate.new.self c.truncate.ensures
    c.args.self.now.frames c.forget.new.self c.forget.ensures (record {})
