-- So far k parts are roots.
use Rattle.store.specs.Stores.{part_in}
use Rattle.engine.specs.Turning.{OthersPushed}
use Rattle.engine.proofs.turns.push_others.Given as goal

abbrev pub invariant-loop-k : goal.invariant-loop-k
invariant-loop-k l = OthersPushed (λ k. part_in l.store l.p.0 k) l.initial.roots l.k l.roots
