-- All go down once there are no more.
use Rattle.std.proofs.Common.{arith}
use Rattle.order.proofs.Rules.{all_down}
use Rattle.order.proofs.down.first_up.Goals as goal

pub returns-then-i-rules : goal.returns-then-i-rules
returns-then-i-rules c = all_down c.args.book.now c.rules.i (omega arith) c.rules.invariant
