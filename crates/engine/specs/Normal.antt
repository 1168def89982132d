-- The normal form of a term of the store.
use Rattle.std.specs.Prelude.{◌≡◌, ℕ, ◌-◌, ◌<◌, List, Ok, Err, Result, length}
use Rattle.rewriting.specs.Terms.{Term, Fits}
use Rattle.rewriting.specs.Rules.{Eq, Steps, Done}
use Rattle.rewriting.specs.Machine.{State, LowestMoves, whole, start, finished}
use Rattle.store.specs.Stores.{Sound, held, Inside}
use Rattle.books.specs.declared.row.Book.{Book}
use Rattle.books.specs.Books.{told}
use Rattle.engine.specs.declared.types.NoRoom.{NoRoom}
use Rattle.engine.specs.declared.work.Work.{Work}
use Rattle.engine.specs.Frames.{FramesFit}
use Rattle.engine.specs.Spacing.{Wanting}

-- the term of root i
abbrev pub root_term : Work → ℕ → Term
root_term w i = held w.store w.roots i

-- the uppermost root's term is over the signature
pub record Startable (b : Book) (w : Work) : Type 0 where
  pub inside : Inside w.store w.roots
  pub some : 0 < w.roots.top
  pub fits : Fits (told b).parts (root_term w (w.roots.top - 1))

-- moves of the machine from the term t to the end give its normal form v; those by a rule are by the lowest-numbered one. Which steps led
-- to a known normal form that they take is left open
pub record Finishes (rs : List Eq) (t v : Term) : Type 0 where
  pub moves : LowestMoves rs (start t) (finished v)
  pub steps : Steps rs t v
  pub done : Done rs v

-- such moves lead from the term t, with the roots below low kept, to a state for whose whole there is no space
pub record RunsOut (rs : List Eq) (low : ℕ) (w : Work) (t : Term) : Type 0 where
  pub at_last : State
  pub moves : LowestMoves rs (start t) at_last
  pub steps : Steps rs t (whole at_last)
  pub wanting : Wanting w.store.room (length w.frames.words.now) (length w.roots.cells.now) low (root_term w) (whole at_last)

-- the normal form of the uppermost root's term in its place; or this root is gone, for want of space
abbrev pub NormalOrWanting : Book → Work → Work → Result (Unit {0}) NoRoom → Type 0
NormalOrWanting b w v (Ok _) = (v.roots.top ≡ w.roots.top)
    × Finishes (told b).rules (root_term w (w.roots.top - 1)) (root_term v (w.roots.top - 1))
NormalOrWanting b w v (Err _) = (v.roots.top ≡ w.roots.top - 1)
    × RunsOut (told b).rules (w.roots.top - 1) w (root_term w (w.roots.top - 1))

-- that, and the roots below are kept
pub record Normalized (b : Book) (w v : Work) (x : Result (Unit {0}) NoRoom) : Type 0 where
  pub sound : Sound v.store
  pub inside : Inside v.store v.roots
  pub room : v.store.room ≡ w.store.room
  pub cells : length v.roots.cells.now ≡ length w.roots.cells.now
  pub words : length v.frames.words.now ≡ length w.frames.words.now
  pub frames : FramesFit v.frames
  pub terms : (k : ℕ) → k < w.roots.top - 1 → root_term v k ≡ root_term w k
  pub result : NormalOrWanting b w v x
