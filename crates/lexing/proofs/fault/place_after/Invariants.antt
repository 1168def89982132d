-- the place after the bytes that were passed; neither number is more than theirs and one
use Rattle.std.proofs.Common.{◌≡◌, ◌+◌, ◌≤◌, take}
use Rattle.lexing.specs.Places.{place_of}
use Rattle.lexing.proofs.fault.place_after.Given as goal

abbrev pub invariant-loop-b : goal.invariant-loop-b
invariant-loop-b l =
    (l.place ≡ place_of (take l.b-index l.before)) × (l.place.line ≤ l.b-index + 1) × (l.place.column ≤ l.b-index + 1)
