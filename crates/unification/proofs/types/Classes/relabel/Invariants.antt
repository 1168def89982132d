-- So far the first places are relabelled.
use Rattle.unification.proofs.Labels.{RelabelledBelow}
use Rattle.unification.proofs.types.Classes.relabel.Given as goal

abbrev pub invariant-loop-label : goal.invariant-loop-label
invariant-loop-label l = RelabelledBelow l.label-index l.initial.label-items l.a l.b l.label-items
