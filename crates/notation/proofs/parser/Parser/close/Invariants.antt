-- each turn closes a sign
use Rattle.std.proofs.Common.{vec_len}
use Rattle.notation.proofs.parser.Parser.close.Given as goal

abbrev pub decreases-loop-sign : goal.decreases-loop-sign
decreases-loop-sign l = vec_len l.open
