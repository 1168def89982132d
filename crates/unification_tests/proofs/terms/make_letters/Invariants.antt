-- The roots stay inside the store.
use Rattle.store.specs.Stores.{Inside}
use Rattle.unification_tests.proofs.terms.make_letters.Given as goal

abbrev pub invariant-loop-x : goal.invariant-loop-x
invariant-loop-x l = Inside l.store l.roots
