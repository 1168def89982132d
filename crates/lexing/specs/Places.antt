-- Lines and columns of a text, counted from 1; columns count characters, and so no byte that continues one.
use Rattle.std.specs.Prelude.{ℕ, ◌+◌, cond, ◌||◌, List, fold, ◌==◌, nat_le, nat_lt}
use Rattle.lexing.specs.declared.fault.Place.{Place}

-- one byte further: 10 ends a line, and 128 to 191 continue a character
abbrev pub past : Place → ℕ → Place
past p b = record {
  line = cond (b == 10) (p.line + 1) p.line;
  column = cond (b == 10) 1 (cond (nat_lt b 128 || nat_le 192 b) (p.column + 1) p.column);
}

-- the place after these bytes
abbrev pub place_of : List ℕ → Place
place_of bs = fold past (record { line = 1; column = 1 }) bs
