-- The sides stand in the words that are compared.
use Rattle.order.proofs.Tables.{none_in_new}
use Rattle.order.proofs.Rules.{rule_told}
use Rattle.order.proofs.down.goes_down.Goals as goal

pub greater-requires : goal.greater-requires
greater-requires c = λ k j b h is. absurd (none_in_new c.new.result c.new.ensures k j b h is)

pub returns : goal.returns
returns c = rule_told c.args.book.now c.args.i c.requires _ _ _ _ c.rule.ensures.left c.rule.ensures.right c.parts.ensures c.ranks.ensures
    c.greater.result c.greater.ensures.is
