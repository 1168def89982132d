-- One row after the other.
use Rattle.std.proofs.Common.{Ok, sym, ◌∙◌, subst}
use Rattle.store.specs.Transfers.{RowOf, Read}
use Rattle.engine.proofs.Pairing.{few, row_here, none_inside, no_first, no_second, both_read, next_inside}
use Rattle.engine.proofs.work.Work.read_rows.Goals as goal

pub read_row-requires-clause-inside : goal.read_row-requires-clause-inside
read_row-requires-clause-inside c = (
  none_inside c.args.self.now.store c.args.self.now.roots c.requires.1,
  few c.args.book.now _ c.parts.ensures,
)

pub read_row-requires-clause-row_of : goal.read_row-requires-clause-row_of
read_row-requires-clause-row_of c = (
  c.requires.0.0,
  row_here c.args.book.now _ c.parts.ensures c.args.left.now
      c.requires.0.0 c.requires.0.2.left,
)

pub returns-in_err-read_row : goal.returns-in_err-read_row
returns-in_err-read_row c =
    no_first c.args.book.now _ c.parts.ensures c.args.self.now c.requires.1
    c.args.left.now c.args.right.now c.requires.0 c.read_row.new.self c.read_row.new.roots
    c.in_err-read_row.ensures c.from_residual.result c.from_residual.ensures.0

pub read_row-requires-2-clause-inside : goal.read_row-requires-2-clause-inside
read_row-requires-2-clause-inside c = (
  next_inside c.args.book.now _ c.parts.ensures c.args.self.now c.requires.1
      c.args.left.now c.args.right.now c.requires.0 c.read_row.new.self c.read_row.new.roots c.in_ok-read_row.ensures,
  few c.args.book.now _ c.parts-2.ensures,
)

pub read_row-requires-2-clause-row_of : goal.read_row-requires-2-clause-row_of
read_row-requires-2-clause-row_of c = (
  c.requires.0.1,
  row_here c.args.book.now _ c.parts-2.ensures c.args.right.now
      c.requires.0.1 c.requires.0.2.right,
)

pub returns-in_err-read_row-2 : goal.returns-in_err-read_row-2
returns-in_err-read_row-2 c =
    let first = subst (λ (ps : _). (t : _) → RowOf ps c.args.left.now t → Read c.args.self.now.store c.args.self.now.roots t
    c.read_row.new.self
    c.read_row.new.roots (Ok tt)) (c.parts.ensures ∙ sym c.parts-2.ensures) c.in_ok-read_row.ensures in
    no_second c.args.book.now _ c.parts-2.ensures c.args.self.now c.requires.1
    c.args.left.now c.args.right.now c.requires.0 c.read_row.new.self c.read_row.new.roots
    first c.read_row-2.new.self c.read_row-2.new.roots c.in_err-read_row-2.ensures
    c.from_residual-in_err-read_row-2.result c.from_residual-in_err-read_row-2.ensures.0

pub returns : goal.returns
returns c =
    let first = subst (λ (ps : _). (t : _) → RowOf ps c.args.left.now t → Read c.args.self.now.store c.args.self.now.roots t
    c.read_row.new.self
    c.read_row.new.roots (Ok tt)) (c.parts.ensures ∙ sym c.parts-2.ensures) c.in_ok-read_row.ensures in
    both_read c.args.book.now _ c.parts-2.ensures c.args.self.now c.requires.1
    c.args.left.now c.args.right.now c.requires.0 c.read_row.new.self c.read_row.new.roots
    first c.read_row-2.new.self c.read_row-2.new.roots c.in_ok-read_row-2.ensures
