-- The next term is read, and the step to it is told.
use Rattle.std.proofs.Common.{ℕ, List, Some, sym, subst}
use Rattle.books.specs.Reading.{TermEnd}
use Rattle.books.specs.declared.words.Letters.TheVariants.{Any}
use Rattle.store.specs.Stores.{held}
use Rattle.ways.specs.Showing.{NextTold}
use Rattle.ways.proofs.Following.{kept_same, kept_next, next_told}
use Rattle.ways.proofs.Rooms.{row_of}
use Rattle.ways.proofs.walk.Walk.next.Goals as goal

pub returns-in_err-end-clause-kept : goal.returns-in_err-end-clause-kept
returns-in_err-end-clause-kept c = kept_same c.args.self.now

pub returns-clause-kept : goal.returns-clause-kept
returns-clause-kept c =
    let (t, fits, at) = subst (λ (ps : List ℕ). TermEnd Any ps c.args.self.now.ways.now c.args.at (Some c.in_ok-end.end)) c.parts.ensures
    c.in_ok-end.ensures in
    kept_next c.args.self.now c.requires c.args.at c.in_ok-end.end t fits at c.read.new.self c.read.ensures.kept
    (c.read.ensures.stacked t (row_of _ _ _ _ t fits at)) c.step.new.self c.step.ensures.only _ c.step.ensures.told

pub returns-clause-told : goal.returns-clause-told
returns-clause-told c =
    let (t, fits, at) = subst (λ (ps : List ℕ). TermEnd Any ps c.args.self.now.ways.now c.args.at (Some c.in_ok-end.end)) c.parts.ensures
    c.in_ok-end.ensures in
    subst (NextTold c.args.self.now.book.now c.args.self.now.ways.now c.args.at (held c.args.self.now.store.now c.args.self.now.roots.now 0)
    (held c.step.new.self.store.now c.step.new.self.roots.now 0)) (sym c.then_some.ensures)
    (next_told c.args.self.now c.requires c.args.at c.in_ok-end.end t fits at c.read.new.self c.read.ensures.kept
    (c.read.ensures.stacked t (row_of _ _ _ _ t fits at)) c.step.new.self c.step.ensures.only _ c.step.ensures.told)
