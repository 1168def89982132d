-- What a reducer keeps while it works.
use Rattle.std.specs.Prelude.{◌≡◌, length}
use Rattle.engine.specs.declared.work.Work.{Work}
use Rattle.engine.specs.declared.reducer.Reducer.{Reducer}
use Rattle.engine.specs.Frames.{FramesFit}

-- the rules are the same, and the work words are the ones that were lent
pub record Lent (r s : Reducer) : Type 0 where
  pub rules : s.rules.now ≡ r.rules.now
  pub lent : s.work.ghost_name ≡ r.work.ghost_name

-- no words are lost, frames that fit in them do so still, and no roots are left
pub record Idle (w v : Work) : Type 0 where
  pub room : v.store.room ≡ w.store.room
  pub cells : length v.roots.cells.now ≡ length w.roots.cells.now
  pub words : length v.frames.words.now ≡ length w.frames.words.now
  pub frames : FramesFit w.frames → FramesFit v.frames
  pub none : v.roots.top ≡ 0

-- both
pub record LeftIdle (r s : Reducer) : Type 0 where
  pub lent : Lent r s
  pub idle : Idle r.work.now s.work.now
