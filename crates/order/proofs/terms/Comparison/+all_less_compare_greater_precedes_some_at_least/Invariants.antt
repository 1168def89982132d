-- Parts stand behind their sign.
use Rattle.std.proofs.Common.{◌+◌, ◌-◌, ◌*◌, length}
use Rattle.order.proofs.terms.Comparison.+all_less_compare_greater_precedes_some_at_least.Given as goal

abbrev pub decreases-all_less : goal.decreases-all_less
decreases-all_less l = 3 * ((length l.self.now.left.now - l.k) + (length l.self.now.right.now - l.terms.start)) + 2

abbrev pub decreases-compare : goal.decreases-compare
decreases-compare l = 3 * ((length l.self.now.left.now - l.k) + (length l.self.now.right.now - l.j))

abbrev pub decreases-greater : goal.decreases-greater
decreases-greater l = 3 * ((length l.self.now.left.now - l.k) + (length l.self.now.right.now - l.j)) + 1

abbrev pub decreases-precedes : goal.decreases-precedes
decreases-precedes l = 3 * ((length l.self.now.left.now - l.f.parts.start) + (length l.self.now.right.now - l.g.parts.start)) + 2

abbrev pub decreases-some_at_least : goal.decreases-some_at_least
decreases-some_at_least l = 3 * ((length l.self.now.left.now - l.terms.start) + (length l.self.now.right.now - l.j)) + 2
