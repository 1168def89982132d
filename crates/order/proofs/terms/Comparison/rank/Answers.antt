-- The rank as an element of the list.
use Rattle.std.proofs.Common.{sym, ◌∙◌, ◌≡◌, get_or}
use Rattle.std.proofs.lemmas.Grind.{common_steps}
use Rattle.std.proofs.Common.{arith}
use Rattle.order.proofs.Standing.{rank_getD}
use Rattle.order.proofs.terms.Comparison.rank.Goals as goal

pub returns : goal.returns
returns c =
    let e : c.unwrap_or.result ≡ get_or c.args.self.now.ranks.now c.args.f 0 = grind (arith, common_steps) in
    e ∙ sym (rank_getD c.args.self.now.ranks.now c.args.f)
