-- The stack of frames by itself: four words each.
use Rattle.std.specs.Prelude.{◌≡◌, ℕ, zero, suc, ◌+◌, ◌-◌, ◌*◌, ◌<◌, ◌≤◌, ◌⊎◌, List, length, Option, Some, None, slice_index, ⊤}
use Rattle.store.specs.declared.types.Place.{Place}
use Rattle.engine.specs.declared.types.Frame.{Frame}
use Rattle.engine.specs.declared.types.Frames.{Frames}

-- the place that a word remembers: its number is one less
abbrev pub asked_in : ℕ → Option Place
asked_in zero = None
asked_in (suc n) = Some (record { 0 = n })

-- frame d
abbrev pub frame_at : List ℕ → ℕ → Frame
frame_at ws d = record {
  sign = slice_index ws (4 * d);
  others = slice_index ws (4 * d + 1);
  done = slice_index ws (4 * d + 2);
  asked = asked_in (slice_index ws (4 * d + 3));
}

-- what was to be remembered is, or nothing is, since it was too large
abbrev pub Remembered : Option Place → Option Place → Type 0
Remembered a b = (b ≡ None) ⊎ (b ≡ a)

abbrev pub WordFor : Option Place → ℕ → Type 0
WordFor a w = Remembered a (asked_in w)

-- the frames fit in their words, and no more of them have forgotten what they asked for than there are
pub record FramesFit (q : Frames) : Type 0 where
  pub words : 4 * q.depth ≤ length q.words.now
  pub fresh : q.fresh ≤ q.depth

-- frame d is k, and those below it are as they were
pub record PutAt (vs : List ℕ) (d : ℕ) (k : Frame) (ws : List ℕ) : Type 0 where
  pub long : length ws ≡ length vs
  pub is : frame_at ws d ≡ k
  pub below : (e : ℕ) → e < d → frame_at ws e ≡ frame_at vs e

pub record FramePut (q : Frames) (d : ℕ) (k : Frame) (r : Frames) : Type 0 where
  pub kept : Option Place
  pub asked : Remembered k.asked kept
  pub words : PutAt q.words.now d (record { sign = k.sign; others = k.others; done = k.done; asked = kept }) r.words.now
  pub depth : r.depth ≡ q.depth
  pub fresh : r.fresh ≡ q.fresh

-- one more frame, none of whose parts are done
pub record FramePushed (q : Frames) (f n : ℕ) (p : Place) (r : Frames) : Type 0 where
  pub kept : Option Place
  pub asked : Remembered (Some p) kept
  pub words : PutAt q.words.now q.depth (record { sign = f; others = n; done = 0; asked = kept }) r.words.now
  pub depth : r.depth ≡ q.depth + 1
  pub long : 4 * r.depth ≤ length r.words.now
  pub fresh : r.fresh ≡ q.fresh

-- the top frame k has one more part done
pub record GoneOn (q : Frames) (p : Place) (r : Frames) : Type 0 where
  pub kept : Option Place
  pub asked : Remembered (Some p) kept
  pub words : PutAt q.words.now (q.depth - 1)
      (record {
        sign = (frame_at q.words.now (q.depth - 1)).sign;
        others = (frame_at q.words.now (q.depth - 1)).others;
        done = (frame_at q.words.now (q.depth - 1)).done + 1;
        asked = kept;
      }) r.words.now
  pub depth : r.depth ≡ q.depth
  pub fresh : r.fresh ≤ q.depth - 1
  pub later : (d : ℕ) → r.fresh ≤ d → d < q.depth - 1 → q.fresh ≤ d

-- the frames but the top one
pub record Popped (q r : Frames) : Type 0 where
  pub words : r.words.now ≡ q.words.now
  pub depth : r.depth + 1 ≡ q.depth
  pub fresh : r.fresh ≤ r.depth
  pub later : (d : ℕ) → r.fresh ≤ d → d < r.depth → q.fresh ≤ d

-- what the top frame asked for, if that is known
abbrev pub AskedTop : Frames → Option Place → Type 0
AskedTop q None = ⊤
AskedTop q (Some p) = (q.fresh ≤ q.depth - 1) × ((frame_at q.words.now (q.depth - 1)).asked ≡ Some p)

-- the same frames, with nothing remembered; and none
pub record Forgotten (q r : Frames) : Type 0 where
  pub words : r.words.now ≡ q.words.now
  pub depth : r.depth ≡ q.depth
  pub fresh : r.fresh ≡ q.depth

pub record Emptied (q r : Frames) : Type 0 where
  pub words : r.words.now ≡ q.words.now
  pub depth : r.depth ≡ 0
  pub fresh : r.fresh ≡ 0
