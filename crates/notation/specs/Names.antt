-- What names stand for.
use Rattle.std.specs.Prelude.{◌≡◌, ℕ, ◌<◌, List, get_or, vec_items, vec_len, string_bytes, Vec, String, slice_index_or}
use Rattle.std.specs.declared.alloc.Global.{Global}
use Rattle.notation.specs.declared.signature.Sign.{Sign as NamedSign}
use Rattle.notation.specs.declared.signature.Signature.{Signature}
use Rattle.books.specs.declared.words.Symbol.{Symbol}
use Rattle.books.specs.declared.words.Symbol.TheVariants.{Letter, Sign}

-- sign or letter i has the name
abbrev pub SignNamed : Vec NamedSign Global → List ℕ → ℕ → Type 0
SignNamed v name i = (i < vec_len v) × ((d : NamedSign) → string_bytes (get_or (vec_items v) i d).name ≡ name)

abbrev pub LetterNamed : Vec (String Global) Global → List ℕ → ℕ → Type 0
LetterNamed v name i = (i < vec_len v) × ((d : String Global) → string_bytes (slice_index_or (vec_items v) i d) ≡ name)

-- the name is that of the sign or letter
abbrev pub Named : Signature → List ℕ → Symbol → Type 0
Named g name (Letter x) = LetterNamed g.letters name x
Named g name (Sign f) = SignNamed g.signs name f
