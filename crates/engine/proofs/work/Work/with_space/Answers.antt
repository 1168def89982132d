-- What is wanting, or the space that a collection gave.
use Rattle.std.proofs.Common.{sym, refl, subst, arith}
use Rattle.engine.specs.Spacing.{WithSpace}
use Rattle.engine.proofs.Spaced.{no_words, no_cells, no_slots, spaced}
use Rattle.engine.proofs.work.Work.with_space.Goals as goal

pub returns-then-not-has_space : goal.returns-then-not-has_space
returns-then-not-has_space c rs low run1 =
    no_words rs low c.args.self.now.store c.args.self.now.roots c.args.self.now.frames c.args.focus run1
    (c.if-not-has_space.ensures.no refl)

pub returns-then-room-self-lt4 : goal.returns-then-room-self-lt4
returns-then-room-self-lt4 c rs low run1 =
    no_cells rs low c.args.self.now.store c.args.self.now.roots c.args.self.now.frames c.args.focus run1 (omega (arith, c.if-room-self-lt4.true, c.room.ensures))

pub returns-in_err-p : goal.returns-in_err-p
returns-in_err-p c rs low run1 =
    let new = c.collect.new.self in
    no_slots rs low c.args.self.now.store c.args.self.now.roots c.args.self.now.frames c.args.focus run1 c.place.result
    c.place.ensures new.store new.roots new.frames c.in_err-p.ensures c.from_residual.result c.from_residual.ensures.0

pub returns : goal.returns
returns c rs low run1 =
    let new = c.collect.new.self in
    subst (WithSpace rs low c.args.self.now c.args.focus new) (sym c.at.ensures)
    (spaced rs low c.args.self.now.store c.args.self.now.roots c.args.self.now.frames c.args.focus run1 c.place.result c.place.ensures
    new.store new.roots new.frames c.in_ok-p.p c.in_ok-p.ensures (c.if-not-has_space.ensures.yes refl) (omega (arith, c.if-room-self-lt4.false, c.room.ensures)))
