-- So far the marked slots below i are the first n.
use Rattle.store.specs.Slides.{Slid}
use Rattle.store.specs.Chains.{Chains}
use Rattle.store.proofs.collect.slide.Given as goal

abbrev pub invariant-loop-i : goal.invariant-loop-i
invariant-loop-i l = Slid l.initial.ws l.i l.ws l.n × Chains l.mask l.ws l.n
