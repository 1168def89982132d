-- So far no slot from `next` on is the key's. The links go down.
use Rattle.store.specs.Chains.{Searched}
use Rattle.store.proofs.types.Store.find.Given as goal

abbrev pub invariant-loop-i : goal.invariant-loop-i
invariant-loop-i l = Searched l.self.mask l.self.words.now l.self.count l.key l.next

abbrev pub decreases-loop-i : goal.decreases-loop-i
decreases-loop-i l = l.next
