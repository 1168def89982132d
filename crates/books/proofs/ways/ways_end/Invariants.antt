-- The ways of the rules that are left are what is left of the words.
use Rattle.std.proofs.Common.{◌-◌, ◌≤◌, ◌↔◌, length, drop}
use Rattle.books.specs.Rows.{SomeWays}
use Rattle.books.proofs.ways.ways_end.Given as goal

abbrev pub invariant-loop : goal.invariant-loop
invariant-loop l = (l.at ≤ length l.words)
    × (SomeWays l.parts l.rules l.words ↔ SomeWays l.parts (l.rules - l.counter) (drop l.at l.words))
