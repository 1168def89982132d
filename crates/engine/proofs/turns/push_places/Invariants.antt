-- So far the first places are roots.
use Rattle.std.proofs.Common.{◌-◌, get_or}
use Rattle.engine.specs.Turning.{OthersPushed}
use Rattle.engine.proofs.turns.push_places.Given as goal

abbrev pub invariant-loop-p : goal.invariant-loop-p
invariant-loop-p l = OthersPushed (λ k. (get_or l.places (k - 1) (record { 0 = 0 })).0) l.initial.roots l.p-index l.roots
