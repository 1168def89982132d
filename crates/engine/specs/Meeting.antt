-- Two terms brought to normal form and compared, and how many different parts a term may have for that.
use Rattle.std.specs.Prelude.{◌≡◌, ℕ, ◌+◌, ◌-◌, ◌*◌, ◌/◌, ◌<◌, ◌≤◌, Bool, true, false, ◌⊎◌, Ok, Err, Result, [], ◌∷◌, length, ◌≢◌}
use Rattle.rewriting.specs.Terms.{Term, Fits}
use Rattle.rewriting.specs.Rules.{Steps, Done}
use Rattle.rewriting.specs.Different.{different}
use Rattle.store.specs.declared.types.Roots.{Roots}
use Rattle.store.specs.Stacks.{root_in}
use Rattle.store.specs.Stores.{Inside}
use Rattle.books.specs.declared.row.Book.{Book}
use Rattle.books.specs.Books.{told}
use Rattle.engine.specs.declared.types.NoRoom.{NoRoom}
use Rattle.engine.specs.declared.work.Work.{Work}
use Rattle.engine.specs.Frames.{FramesFit}
use Rattle.engine.specs.Normal.{root_term}

-- how many different parts a term may have, by the number of work words
abbrev pub most_parts : ℕ → ℕ
most_parts w = (w - 16384) / 64

-- slots, cells and words enough for two terms of n different parts at once, and for all work that has a fixed bound
pub record Ample (n : ℕ) (w : Work) : Type 0 where
  pub slots : 2 * n + 640 ≤ w.store.room
  pub cells : 6 * n + 256 ≤ length w.roots.cells.now
  pub words : 4 * n + 16 ≤ length w.frames.words.now

-- there are two roots, whose terms are over the signature
pub record TwoRoots (b : Book) (w : Work) : Type 0 where
  pub inside : Inside w.store w.roots
  pub two : w.roots.top ≡ 2
  pub first : Fits (told b).parts (root_term w 0)
  pub second : Fits (told b).parts (root_term w 1)

-- two terms come to one normal form, or to two different ones; or steps lead from one of them to a term of more than n different parts
abbrev pub Compares : Book → ℕ → Term → Term → Result Bool NoRoom → Type 0
Compares b n t u (Ok true) = (v : Term) × Steps (told b).rules t v × Steps (told b).rules u v
Compares b n t u (Ok false) = (v w : Term) × Steps (told b).rules t v × Done (told b).rules v
    × Steps (told b).rules u w × Done (told b).rules w × (v ≢ w)
Compares b n t u (Err _) = (v : Term) × (Steps (told b).rules t v ⊎ Steps (told b).rules u v) × (n < different (v ∷ []))

-- the two lowest roots have changed places
pub record Exchanged (q r : Roots) : Type 0 where
  pub long : length r.cells.now ≡ length q.cells.now
  pub top : r.top ≡ q.top
  pub first : root_in r 0 ≡ root_in q 1
  pub second : root_in r 1 ≡ root_in q 0

-- both roots hold normal forms, that of the upper one below; or there is no room
abbrev pub BothOrRoom : Book → Work → Work → Result (Unit {0}) NoRoom → Type 0
BothOrRoom b w v (Ok _) = (v.roots.top ≡ 2)
    × Steps (told b).rules (root_term w 0) (root_term v 1) × Done (told b).rules (root_term v 1)
    × Steps (told b).rules (root_term w 1) (root_term v 0) × Done (told b).rules (root_term v 0)
BothOrRoom b w v (Err e) = (n : ℕ) → Ample n w → Compares b n (root_term w 0) (root_term w 1) (Err e)

-- that, with no words lost
pub record BothNormal (b : Book) (w v : Work) (x : Result (Unit {0}) NoRoom) : Type 0 where
  pub inside : Inside v.store v.roots
  pub room : v.store.room ≡ w.store.room
  pub cells : length v.roots.cells.now ≡ length w.roots.cells.now
  pub words : length v.frames.words.now ≡ length w.frames.words.now
  pub frames : FramesFit v.frames
  pub result : BothOrRoom b w v x

-- two terms are compared, and no words are lost
pub record RootsCompared (b : Book) (w v : Work) (x : Result Bool NoRoom) : Type 0 where
  pub room : v.store.room ≡ w.store.room
  pub cells : length v.roots.cells.now ≡ length w.roots.cells.now
  pub words : length v.frames.words.now ≡ length w.frames.words.now
  pub frames : FramesFit w.frames → FramesFit v.frames
  pub result : (n : ℕ) → Ample n w → Compares b n (root_term w 0) (root_term w 1) x
