-- The session is on what is given.
use Rattle.equal.specs.SessionRows.{SessionOn}
use Rattle.telling.proofs.session.tell_pairs.Given as goal

abbrev pub invariant-loop-turn : goal.invariant-loop-turn
invariant-loop-turn g l = SessionOn l.session l.given.book.now l.given.ways.now l.given.work
