-- each turn adds at most two words
use Rattle.std.proofs.Common.{◌+◌, ◌*◌, ◌≤◌, vec_len}
use Rattle.notation.proofs.parser.Parser.term.Given as goal

abbrev pub invariant-loop-turn : goal.invariant-loop-turn
invariant-loop-turn l = vec_len l.row ≤ vec_len l.initial.row + 2 * l._turn
