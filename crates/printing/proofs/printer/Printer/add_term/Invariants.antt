-- each turn takes two words
use Rattle.std.proofs.Common.{◌-◌, ◌≤◌, length}
use Rattle.printing.proofs.printer.Printer.add_term.Given as goal

abbrev pub invariant-loop-symbol : goal.invariant-loop-symbol
invariant-loop-symbol l = l.at ≤ l.end

abbrev pub decreases-loop-symbol : goal.decreases-loop-symbol
decreases-loop-symbol l = length l.words - l.end
