-- The letters at the first i places are found.
use Rattle.unification.proofs.Lettering.{FoundBelow}
use Rattle.unification.proofs.letters.find_letters.Given as goal

abbrev pub invariant-loop-i : goal.invariant-loop-i
invariant-loop-i l = FoundBelow l.store l.i l.letters
