-- What is found, and what is left.
use Rattle.std.proofs.Common.{refl}
use Rattle.std.proofs.Math.Logic.{∥∥₁_map}
use Rattle.engine.proofs.Pairing.{two_here, compared_on}
use Rattle.engine.proofs.reducer.Reducer.compare_rows.Goals as goal

pub invariant_of-self : goal.invariant_of-self
invariant_of-self c = record { honest = ∥∥₁_map c.args.self.now.honest (c.read_rows.ensures.honest _) }

pub invariant_of-self-in_default : goal.invariant_of-self-in_default
invariant_of-self-in_default c = record { honest = ∥∥₁_map c.args.self.now.honest (c.read_rows.ensures.honest _) }

pub compare-requires : goal.compare-requires
compare-requires c =
    let r = c.args.self.now in
    let two = c.if-not-are_terms.ensures.holds refl in
    two_here r.rules.now.book r.work.now c.args.left.now c.args.right.now two c.read_rows.new.self c.in_default.ensures

pub returns-clause-result : goal.returns-clause-result
returns-clause-result c =
    let r = c.args.self.now in
    let two = c.if-not-are_terms.ensures.holds refl in (
      two,
      compared_on r.rules.now.book r.work.now c.args.left.now c.args.right.now two c.read_rows.new.self
          c.in_default.ensures c.compare.new.self.work.now c.compare.result c.compare.ensures.result,
    )
