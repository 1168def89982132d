-- Roots marked, marks passed on.
use Rattle.std.proofs.Common.{arith}
use Rattle.store.specs.Stacks.{root_in}
use Rattle.store.proofs.Marking.{roots_marked}
use Rattle.store.proofs.collect.mark.Goals as goal

pub returns : goal.returns
returns c = roots_marked c.args.ws.now c.mark_roots.new.ws c.mark_reached.new.ws c.args.count
    (λ k. root_in c.args.roots.now k) c.args.roots.now.top c.requires.shape (omega arith) c.requires.unmarked c.mark_roots.ensures
    c.mark_reached.ensures
