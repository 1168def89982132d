-- Space for turns: what a collection comes to, and what is wanting where there is no space.
use Rattle.std.specs.Prelude.{◌≡◌, ℕ, ◌+◌, ◌*◌, ◌<◌, ◌≤◌, List, [], ◌∷◌, length, Ok, Err, Result}
use Rattle.std.specs.declared.ops.ControlFlow.{ControlFlow}
use Rattle.std.specs.declared.ops.ControlFlow.TheVariants.{Continue, Break}
use Rattle.rewriting.specs.Terms.{Term}
use Rattle.rewriting.specs.Rules.{Eq}
use Rattle.rewriting.specs.Different.{different, listed}
use Rattle.rewriting.specs.Machine.{whole}
use Rattle.store.specs.declared.types.Place.{Place}
use Rattle.store.specs.Stores.{Sound, Carried, term_in, held, Inside}
use Rattle.books.specs.declared.row.Book.{Book}
use Rattle.books.specs.Books.{told}
use Rattle.engine.specs.declared.types.Focus.{Focus}
use Rattle.engine.specs.declared.types.Focus.TheVariants.{Eval, Back}
use Rattle.engine.specs.declared.types.NoRoom.{NoRoom}
use Rattle.engine.specs.declared.work.Work.{Work}
use Rattle.engine.specs.Frames.{FramesFit, Forgotten}
use Rattle.engine.specs.Running.{state_in, Honest, Running}
use Rattle.engine.specs.Turning.{Goes, SpaceForTurn, Ready, KeptBelow}

-- the focus at another place
abbrev pub focus_at : Focus → Place → Focus
focus_at (Eval _) p = Eval p
focus_at (Back _) p = Back p

-- a place for the same term, with 33 slots free; or too few slots
abbrev pub PlaceOrFull : Work → Place → Work → Result Place NoRoom → Type 0
PlaceOrFull w p v (Ok o) = (o.0 < v.store.count) × (term_in v.store o.0 ≡ term_in w.store p.0) × (v.store.count + 33 ≤ v.store.limit)
PlaceOrFull w p v (Err _) = w.store.room < different (term_in w.store p.0 ∷ listed (λ k. held w.store w.roots k) w.roots.top) + 33

-- roots and one more place are kept
pub record Collected (w : Work) (p : Place) (v : Work) (x : Result Place NoRoom) : Type 0 where
  pub sound : Sound v.store
  pub room : v.store.room ≡ w.store.room
  pub carried : Carried w.store v.store
  pub cells : length v.roots.cells.now ≡ length w.roots.cells.now
  pub top : v.roots.top ≡ w.roots.top
  pub inside : Inside v.store v.roots
  pub terms : (k : ℕ) → k < w.roots.top → held v.store v.roots k ≡ held w.store w.roots k
  pub forgotten : Forgotten w.frames v.frames
  pub result : PlaceOrFull w p v x

-- what is wanting for the term u, to which steps have led: slots, for its different parts and those of the terms that are kept below;
-- words for frames; or cells for roots
pub data Wanting (room words cells low : ℕ) (h : ℕ → Term) (u : Term) : Type 0 where
  few_slots : room < different (u ∷ listed h low) + 33 → Wanting room words cells low h u
  few_words : words < 4 * different (u ∷ []) → Wanting room words cells low h u
  few_cells : cells < 2 * (low + 3 * different (u ∷ []) + 1) → Wanting room words cells low h u

-- the machine stops
pub record Halted (rs : List Eq) (low : ℕ) (w : Work) (u : Term) (v : Work) : Type 0 where
  pub sound : Sound v.store
  pub honest : Honest rs v.store
  pub inside : Inside v.store v.roots
  pub frames : FramesFit v.frames
  pub enough : low ≤ v.roots.top
  pub kept : KeptBelow low w v
  pub wanting : Wanting w.store.room (length w.frames.words.now) (length w.roots.cells.now) low (λ k. held w.store w.roots k) u

-- there is space, in the same state
pub record WithSpace (rs : List Eq) (low : ℕ) (w : Work) (c : Focus) (v : Work) (e : Focus) : Type 0 where
  pub running : Running rs low v e
  pub same : state_in v e ≡ state_in w c
  pub space : SpaceForTurn v
  pub kept : KeptBelow low w v

abbrev pub SpaceOrHalted : List Eq → ℕ → Work → Focus → Work → Result Focus NoRoom → Type 0
SpaceOrHalted rs low w c v (Ok e) = WithSpace rs low w c v e
SpaceOrHalted rs low w c v (Err _) = Halted rs low w (whole (state_in w c)) v

-- one turn: to another state, or all is done, or the machine stops
pub record Went (b : Book) (low : ℕ) (w : Work) (c : Focus) (v : Work) (e : Focus) : Type 0 where
  pub ready : Ready b low v e
  pub goes : Goes (told b).rules (state_in w c) (state_in v e)
  pub kept : KeptBelow low w v

pub record Ended (b : Book) (low : ℕ) (w : Work) (c : Focus) (v : Work) (p : Place) : Type 0 where
  pub ready : Ready b low v (Back p)
  pub same : state_in v (Back p) ≡ state_in w c
  pub depth : v.frames.depth ≡ 0
  pub kept : KeptBelow low w v

abbrev pub Stepped : Book → ℕ → Work → Focus → Work → Result (ControlFlow Place Focus) NoRoom → Type 0
Stepped b low w c v (Ok (Continue e)) = Went b low w c v e
Stepped b low w c v (Ok (Break p)) = Ended b low w c v p
Stepped b low w c v (Err _) = Halted (told b).rules low w (whole (state_in w c)) v
