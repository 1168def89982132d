-- The words that say an answer, and how an answer is told from them.
use Rattle.std.specs.Prelude.{ℕ, ◌^◌, ◌<◌, cond, List, ◌++◌, drop, codes, decimal, ◌==◌, slice_index}
use Rattle.std.specs.Str.Parse.{digits_value}
use Rattle.equal.specs.declared.types.Judged.{Judged}
use Rattle.equal.specs.declared.types.Judged.TheVariants.{Settles, Up, Apart, Lost, Stray, NoBook, Room, Few}
use Rattle.equal.specs.declared.types.Told.{Told}
use Rattle.equal.specs.declared.types.Told.TheVariants.{Same, Different, Unsettled, NoTerm, Full, Unjudged, Small}

abbrev pub judged_text : Judged → List ℕ
judged_text Settles = codes "settles"
judged_text (Up i) = codes "up " ++ decimal i
judged_text Apart = codes "apart"
judged_text (Lost i) = codes "lost " ++ decimal i
judged_text Stray = codes "stray"
judged_text NoBook = codes "no book"
judged_text Room = codes "room"
judged_text Few = codes "few"

-- the number in the answer, if any, is a word of the machine
abbrev pub Number : Judged → Type 0
Number Settles = Unit {0}
Number (Up i) = i < 2 ^ 64
Number Apart = Unit {0}
Number (Lost i) = i < 2 ^ 64
Number Stray = Unit {0}
Number NoBook = Unit {0}
Number Room = Unit {0}
Number Few = Unit {0}

-- by the first letter, and of those with an s by the second: u, l, a, n, r, f, se, st
abbrev pub judged_from : List ℕ → Judged
judged_from t =
    cond (slice_index t 0 == 117) (Up (digits_value 10 (drop 3 t))) (cond (slice_index t 0 == 108) (Lost (digits_value 10 (drop 5 t)))
    (cond (slice_index t 0 == 97) Apart (cond (slice_index t 0 == 110) NoBook (cond (slice_index t 0 == 114) Room
    (cond (slice_index t 0 == 102) Few (cond (slice_index t 1 == 101) Settles Stray))))))

abbrev pub told_text : Told → List ℕ
told_text Same = codes "same"
told_text Different = codes "different"
told_text Unsettled = codes "unsettled"
told_text NoTerm = codes "no term"
told_text Full = codes "full"
told_text Unjudged = codes "unjudged"
told_text Small = codes "small"

-- by the first letter, and by the second or the third where that does not do: d, n, f, sa, sm, uns, unj
abbrev pub told_from : List ℕ → Told
told_from t =
    cond (slice_index t 0 == 100) Different (cond (slice_index t 0 == 110) NoTerm (cond (slice_index t 0 == 102) Full
    (cond (slice_index t 0 == 115) (cond (slice_index t 1 == 97) Same Small) (cond (slice_index t 2 == 115) Unsettled Unjudged))))
