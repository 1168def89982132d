-- So far the parts from k on are pushed.
use Rattle.std.proofs.Common.{◌-◌}
use Rattle.store.specs.Transfers.{PartsPushed}
use Rattle.store.proofs.types.Store.push_parts.Given as goal

abbrev pub invariant-loop-k : goal.invariant-loop-k
invariant-loop-k l = PartsPushed l.self l.initial.roots l.p.0 l.k (l.n - l.k) l.roots
