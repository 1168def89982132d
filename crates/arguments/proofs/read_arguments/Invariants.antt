-- the work words stay within what is left
use Rattle.std.proofs.Common.{◌≤◌}
use Rattle.arguments.proofs.read_arguments.Given as goal

abbrev pub invariant-loop-argument : goal.invariant-loop-argument
invariant-loop-argument l = l.options.1.0 ≤ 851968
