-- Each round that goes on leaves fewer images wanting.
use Rattle.unification.specs.Images.{unbuilt, Builds}
use Rattle.unification.proofs.building.build.Given as goal

abbrev pub invariant-loop : goal.invariant-loop
invariant-loop l = Builds l.initial.store l.initial.images l.n l.classes l.store l.images

abbrev pub decreases-loop : goal.decreases-loop
decreases-loop l = unbuilt l.images
