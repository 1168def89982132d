-- What the words that are lent for work come to.
use Rattle.std.specs.Prelude.{◌≡◌, ℕ, ◌+◌, ◌*◌, ◌<◌, ◌≤◌, List, Some, None, Option as Maybe}
use Rattle.rewriting.specs.Rules.{Eq}
use Rattle.store.specs.Stores.{Sound, Inside}
use Rattle.engine.specs.declared.work.Work.{Work}
use Rattle.engine.specs.Running.{Honest}
use Rattle.engine.specs.Meeting.{most_parts, Ample}

-- w words give an empty store, no roots and no frames, with space for two terms of as many different parts as w words allow
pub record Fresh (w : ℕ) (k : Work) : Type 0 where
  pub sound : Sound k.store
  pub count : k.store.count ≡ 0
  pub honest : (rs : List Eq) → Honest rs k.store
  pub top : k.roots.top ≡ 0
  pub inside : Inside k.store k.roots
  pub depth : k.frames.depth ≡ 0
  pub forgotten : k.frames.fresh ≡ 0
  pub ample : Ample (most_parts w) k
  pub slots : 3 * most_parts w + 1000 ≤ k.store.room

-- that, or there are too few words
abbrev pub SharedOut : ℕ → Maybe Work → Type 0
SharedOut w None = w < 16384
SharedOut w (Some k) = (16384 ≤ w) × Fresh w k
