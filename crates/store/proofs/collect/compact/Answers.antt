-- What each step comes to makes the next one ready.
use Rattle.std.proofs.Common.{ℕ, arith}
use Rattle.store.specs.Stacks.{root_in}
use Rattle.store.proofs.Collecting.{unmarked_shared, ready, emptied, collected}
use Rattle.store.proofs.collect.compact.Goals as goal

pub mark-requires-clause-shape : goal.mark-requires-clause-shape
mark-requires-clause-shape c = (unmarked_shared c.args.ws.now c.unmark.new.ws c.args.count _ c.requires.shared.0 (omega arith)
    c.unmark.ensures).shape

pub slide-n-requires-clause-shared : goal.slide-n-requires-clause-shared
slide-n-requires-clause-shared c = (
  ready c.args.ws.now c.unmark.new.ws c.mark.new.ws c.args.count _ (λ k. root_in c.args.roots.now k) c.args.roots.now.top
      c.requires.shared.0 (omega arith) c.unmark.ensures (omega arith) c.mark.ensures,
  (c.mark.ensures.closed, omega arith),
)

pub slide-n-requires-clause-empty : goal.slide-n-requires-clause-empty
slide-n-requires-clause-empty c =
    λ j l. emptied c.args.ws.now c.unmark.new.ws c.mark.new.ws c.args.count _ (λ k. root_in c.args.roots.now k) c.args.roots.now.top
    c.requires.shared.0 (omega arith) c.unmark.ensures (omega arith) c.mark.ensures j (omega arith)

pub returns : goal.returns
returns c =
    let q : ℕ → ℕ = λ k. root_in c.args.roots.now k in let r : ℕ → ℕ = λ k. root_in c.move_roots.new.roots k in
    let k = collected c.args.ws.now c.unmark.new.ws c.mark.new.ws c.args.count _ q c.args.roots.now.top
    c.requires.shared.0 (omega arith) c.unmark.ensures (omega arith) c.mark.ensures c.args.mask c.slide-n.new.ws c.slide-n.result
    c.requires.roots.low c.slide-n.ensures.slid c.slide-n.ensures.chains c.clear.new.ws r (omega arith)
    c.clear.ensures c.move_roots.ensures.moved in
    record { chains = k.1; kept = k.0; top = c.move_roots.ensures.top; long = c.move_roots.ensures.long }
