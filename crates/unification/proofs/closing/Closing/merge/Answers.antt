-- By what the first class is known.
use Rattle.std.proofs.Common.{arith}
use Rattle.unification.proofs.Labels.{letter_merged, sign_merged}
use Rattle.unification.proofs.closing.Closing.merge.Goals as goal

pub returns-in-Letter-clause-merged : goal.returns-in-Letter-clause-merged
returns-in-Letter-clause-merged c =
    letter_merged c.args.self.now.store.now c.args.self.now.classes c.relabel.new.self c.args.p.0 c.args.q.0
    c.known_by-a.result.0 c.known_by-b.result.0 (omega arith) c.args.self.now.labelled (omega arith) (omega arith)
    c.known_by-a.ensures.label c.known_by-b.ensures.label c.in-Letter.field-0 c.in-Letter.ensures.1 c.relabel.ensures

pub returns-in-Sign-clause-merged : goal.returns-in-Sign-clause-merged
returns-in-Sign-clause-merged c =
    sign_merged c.args.self.now.store.now c.args.self.now.classes c.relabel-in-Sign.new.self c.args.p.0 c.args.q.0
    c.known_by-a.result.0 c.known_by-b.result.0 (omega arith) c.args.self.now.labelled (omega arith) (omega arith)
    c.known_by-a.ensures.label c.known_by-b.ensures.label c.in-Sign.field-0 _ c.in-Sign.ensures.2 c.relabel-in-Sign.ensures
