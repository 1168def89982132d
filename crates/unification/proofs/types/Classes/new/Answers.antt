-- Each place is its own label.
use Rattle.std.proofs.Common.{rules}
use Rattle.unification.proofs.types.Classes.new.Goals as goal

pub returns : goal.returns
returns c i l = let h = c.from_fn.ensures.items.at i (record { 0 = 0 }) l in search (rules, h)
