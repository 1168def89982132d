-- So far images were built, or each of the first i classes has its image or waits.
use Rattle.unification.specs.Images.{Builds, RoundBuilt}
use Rattle.unification.proofs.building.build_round.Given as goal

abbrev pub invariant-loop-i : goal.invariant-loop-i
invariant-loop-i l = Builds l.initial.store l.initial.images l.n l.classes l.store l.images
    × RoundBuilt l.initial.images l.n l.classes l.i l.store l.images l.found
