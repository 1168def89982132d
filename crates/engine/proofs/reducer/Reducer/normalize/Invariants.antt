-- Where the machine has come to; each turn makes the cost smaller.
use Rattle.rewriting.proofs.Costing.{cost}
use Rattle.books.specs.Books.{told}
use Rattle.engine.specs.Running.{state_in}
use Rattle.engine.specs.Reducers.{Lent}
use Rattle.engine.proofs.RunningOn.{Underway}
use Rattle.engine.proofs.reducer.Reducer.normalize.Given as goal

abbrev pub decreases-loop-next : goal.decreases-loop-next
decreases-loop-next l = cost (told l.book) (state_in l.self.work.now l.focus)

abbrev pub invariant-loop-next : goal.invariant-loop-next
invariant-loop-next l = Lent l.initial.self l.self
    × Underway l.book l.low l.initial.self.work.now (state_in l.initial.self.work.now l.initial.focus) l.self.work.now l.focus
