-- The row is that of the term, and there is room for it.
use Rattle.std.proofs.Common.{ℕ, List, sym, refl, subst}
use Rattle.store.specs.Transfers.{RowOf}
use Rattle.ways.proofs.Following.{few_parts}
use Rattle.ways.proofs.Rooms.{row_fits}
use Rattle.ways.proofs.walk.Walk.read.Goals as goal

pub read_row-requires-clause-inside : goal.read_row-requires-clause-inside
read_row-requires-clause-inside c = (c.requires.inside, few_parts c.args.self.now.book.now c.parts.result.now c.parts.ensures)

pub unwrap-requires : goal.unwrap-requires
unwrap-requires c =
    let (t, s) = c.requires.row in
    let s2 = subst (λ (ps : List ℕ). RowOf ps c.args.words.now t) (sym c.parts.ensures) s in
    (row_fits c.args.self.now.store.now c.args.self.now.roots.now c.parts.result.now c.args.words.now t s2 c.requires.room _ _ _
    (c.read_row.ensures t s2).roots).0

pub returns-clause-kept : goal.returns-clause-kept
returns-clause-kept c =
    let (t, s) = c.requires.row in
    let s2 = subst (λ (ps : List ℕ). RowOf ps c.args.words.now t) (sym c.parts.ensures) s in
    let read = c.read_row.ensures t s2 in
    let stacked = (row_fits c.args.self.now.store.now c.args.self.now.roots.now c.parts.result.now c.args.words.now t s2 c.requires.room
    _ _ _ read.roots).1 in
    record {
      book = refl;
      ways = refl;
      store_lent = refl;
      roots_lent = refl;
      went = record { sound = read.sound; room = read.room; cells = stacked.long; carried = read.carried };
    }
