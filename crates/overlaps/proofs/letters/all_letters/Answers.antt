-- One letter more.
use Rattle.std.proofs.Common.{refl, arith}
use Rattle.overlaps.proofs.Lettering.{one_letter}
use Rattle.overlaps.proofs.letters.all_letters.Goals as goal

pub loop-x-preserved : goal.loop-x-preserved
loop-x-preserved c = one_letter (omega arith) refl c.loop-x.invariant c.share_letter.ensures
