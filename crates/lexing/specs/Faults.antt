-- Faults: where they stand, and what was expected there.
use Rattle.std.specs.Prelude.{◌≡◌, ℕ, List, take}
use Rattle.lexing.specs.declared.fault.Error.{Error}
use Rattle.lexing.specs.declared.fault.Error.TheVariants.{Fault, Memory}
use Rattle.lexing.specs.declared.fault.Expected.{Expected}
use Rattle.lexing.specs.Places.{place_of}

-- the error says what was expected at the byte start of the text, or that there is not enough memory to say so
abbrev pub FaultAt : List ℕ → ℕ → Expected → Error → Type 0
FaultAt text start expected (Fault f) = (f.place ≡ place_of (take start text)) × (f.expected ≡ expected)
FaultAt text start expected Memory = Unit {0}
