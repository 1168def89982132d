-- None of the rules before the next one matches, and it has the term's sign at its top; where there is no next one, none matches at all.
use Rattle.engine.proofs.Trying.{Tried, left_from}
use Rattle.engine.proofs.rules.find_rule.Given as goal

abbrev pub invariant-loop-next : goal.invariant-loop-next
invariant-loop-next l = Tried l.book l.store l.p l.f l.next

abbrev pub decreases-loop-next : goal.decreases-loop-next
decreases-loop-next l = left_from l.book.layout.rules l.next
