-- each turn closes a sign
use Rattle.std.proofs.Common.{vec_len}
use Rattle.printing.proofs.printer.Printer.add_end.Given as goal

abbrev pub decreases-loop-left : goal.decreases-loop-left
decreases-loop-left l = vec_len l.open
