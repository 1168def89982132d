-- The head is below the flag, and its two digits are the tag and the symbol.
use Rattle.std.proofs.Common.{arith}
use borrow.Author.Tests.{lt-leb}
use Rattle.store.specs.Slots.{tag_of, symbol_of, kind_of, flag_of}
use Rattle.store.proofs.slots.sign_head.Goals as goal

pub returns : goal.returns
unfolding tag_of symbol_of kind_of flag_of
returns c = record { tag = omega arith; symbol = omega arith; flag = lt-leb _ _ (omega arith) }
