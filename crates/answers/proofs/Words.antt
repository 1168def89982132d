-- An answer on a book is told from its line.
use Rattle.std.proofs.Common.{◌≡◌, refl, ap}
use Rattle.std.proofs.lemmas.Fmt.{decimal_is_IsNumeral}
use Rattle.equal.specs.declared.types.Judged.{Judged}
use Rattle.equal.specs.declared.types.Judged.TheVariants.{Settles, Up, Apart, Lost, Stray, NoBook, Room, Few}
use Rattle.answers.specs.Words.{judged_text, judged_from, Number}

pub judged_back : (a : Judged) → Number a → judged_from (judged_text a) ≡ a
judged_back Settles n = refl
judged_back (Up i) n = ap Up (decimal_is_IsNumeral i n).1
judged_back Apart n = refl
judged_back (Lost i) n = ap Lost (decimal_is_IsNumeral i n).1
judged_back Stray n = refl
judged_back NoBook n = refl
judged_back Room n = refl
judged_back Few n = refl
