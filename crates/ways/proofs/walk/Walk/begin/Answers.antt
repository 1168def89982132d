-- The left side is the only root's term.
use Rattle.ways.proofs.Following.{kept_cut, left_row, left_is, under_first}
use Rattle.ways.proofs.walk.Walk.begin.Goals as goal

pub read-requires-clause-row : goal.read-requires-clause-row
read-requires-clause-row c =
    (_, left_row c.args.self.now.book.now c.args.i c.requires _ c.rule.ensures.left)

pub returns : goal.returns
returns c =
    let w = c.args.self.now in
    let k = c.read.ensures.kept in
    let kept = kept_cut w c.truncate.new.self c.truncate.ensures c.read.new.self k.book k.ways k.store_lent k.roots_lent k.went in
    let read = c.read.ensures.stacked _ (left_row w.book.now c.args.i c.requires _ c.rule.ensures.left) in
    record {
      ready = under_first w c.args.i c.requires c.truncate.new.self c.truncate.ensures.top c.read.new.self kept read;
      kept = kept;
      term = left_is w c.args.i c.requires c.truncate.new.self c.truncate.ensures.top c.read.new.self kept read;
    }
