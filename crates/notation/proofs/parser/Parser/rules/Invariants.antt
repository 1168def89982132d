-- at most 64 rules, each of at most 128 words
use Rattle.std.proofs.Common.{◌+◌, ◌-◌, ◌*◌, ◌≤◌, vec_len}
use Rattle.notation.proofs.parser.Parser.rules.Given as goal

abbrev pub invariant-loop-self : goal.invariant-loop-self
invariant-loop-self l = record {
  few : l.count ≤ 64;
  row : vec_len l.row ≤ vec_len l.initial.row + 128 * l.count;
}

abbrev pub decreases-loop-self : goal.decreases-loop-self
decreases-loop-self l = 64 - l.count
