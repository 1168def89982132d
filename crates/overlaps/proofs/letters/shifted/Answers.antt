-- Letters below 16 are in the part that was copied, and nothing is behind it.
use Rattle.std.proofs.Common.{◌∙◌, arith}
use Rattle.std.proofs.lemmas.Slice.{between_to_end}
use Rattle.overlaps.proofs.Lettering.{shifted_by}
use Rattle.overlaps.proofs.letters.shifted.Goals as goal

pub returns : goal.returns
returns c =
    let b = c.args.bindings.now in
    shifted_by b c.copy_from_slice.new.self (omega arith) (omega arith)
    (c.copy_from_slice.ensures.after ∙ between_to_end b.at 16 32 (omega arith))
