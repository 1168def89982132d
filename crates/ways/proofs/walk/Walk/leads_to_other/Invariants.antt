-- The step is one between the terms at p and q, which get smaller.
use Rattle.ways.proofs.Stepping.{Narrowed}
use Rattle.ways.proofs.walk.Walk.leads_to_other.Given as goal

abbrev pub invariant-loop-p : goal.invariant-loop-p
invariant-loop-p l = Narrowed l.self.book.now l.self.store.now l.initial.p l.initial.q l.p l.q

abbrev pub decreases-loop-p : goal.decreases-loop-p
decreases-loop-p l = l.p.0
