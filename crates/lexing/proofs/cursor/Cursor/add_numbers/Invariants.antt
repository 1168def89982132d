-- each turn adds at most one word
use Rattle.std.proofs.Common.{◌+◌, ◌≤◌, vec_len}
use Rattle.lexing.proofs.cursor.Cursor.add_numbers.Given as goal

abbrev pub invariant-loop-turn : goal.invariant-loop-turn
invariant-loop-turn l = vec_len l.row ≤ vec_len l.initial.row + l._turn
