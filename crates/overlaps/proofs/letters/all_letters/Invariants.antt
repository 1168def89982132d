-- The first x letters are there.
use Rattle.overlaps.specs.Pairs.{LettersMade}
use Rattle.overlaps.proofs.letters.all_letters.Given as goal

abbrev pub invariant-loop-x : goal.invariant-loop-x
invariant-loop-x l = LettersMade l.x l.initial.store l.store l.letters
