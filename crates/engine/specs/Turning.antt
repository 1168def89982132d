-- Turns of the machine: what each comes to.
use Rattle.std.specs.Prelude.{◌≡◌, ℕ, ◌+◌, ◌-◌, ◌*◌, ◌<◌, ◌≤◌, List, length, Some, None, Option as Maybe, slice_index_or, ⊤}
use Rattle.rewriting.specs.Terms.{Term}
use Rattle.rewriting.specs.Rules.{Eq, Steps, Done}
use Rattle.rewriting.specs.Order.{rank, AllDown}
use Rattle.rewriting.specs.Machine.{State, Still, LowestMove, LowestMoves, Valid}
use Rattle.store.specs.declared.types.Store.{Store}
use Rattle.store.specs.declared.types.Roots.{Roots}
use Rattle.store.specs.declared.types.Place.{Place}
use Rattle.store.specs.Stores.{term_in, held}
use Rattle.store.specs.Stacks.{root_in}
use Rattle.store.specs.Roots.{HasRoots}
use Rattle.books.specs.declared.row.Book.{Book}
use Rattle.books.specs.Books.{told}
use Rattle.engine.specs.declared.types.Frame.{Frame}
use Rattle.engine.specs.declared.types.Focus.{Focus}
use Rattle.engine.specs.declared.types.Focus.TheVariants.{Eval, Back}
use Rattle.engine.specs.declared.work.Work.{Work}
use Rattle.engine.specs.Frames.{frame_at, FramePushed}
use Rattle.engine.specs.Rewriting.{ByRule}
use Rattle.engine.specs.Running.{Running, Holding, state_in}

-- what the term t comes to: to another by the lowest-numbered rule that can be used at its top, or to its normal form; or there is no
-- such rule
pub record NormalAt (rs : List Eq) (t : Term) (su : Store) (q : Place) : Type 0 where
  pub inside : q.0 < su.count
  pub steps : Steps rs t (term_in su q.0)
  pub done : Done rs (term_in su q.0)

abbrev pub ComesTo : List Eq → Term → Store → Focus → Type 0
ComesTo rs t su (Eval q) = ByRule rs t su q
ComesTo rs t su (Back q) = NormalAt rs t su q

abbrev pub ComesOrStill : List Eq → Store → Place → Store → Maybe Focus → Type 0
ComesOrStill rs st p su (Some c) = ComesTo rs (term_in st p.0) su c
ComesOrStill rs st p su None = Still rs (term_in st p.0) × (su ≡ st)

pub record Advanced (rs : List Eq) (st : Store) (p : Place) (su : Store) (x : Maybe Focus) : Type 0 where
  pub holding : Holding rs st su
  pub result : ComesOrStill rs st p su x

-- the same where the term's parts are normal forms
pub record Applied (rs : List Eq) (st : Store) (p : Place) (su : Store) (c : Focus) : Type 0 where
  pub holding : Holding rs st su
  pub result : ComesTo rs (term_in st p.0) su c

-- one move or more; each that is by a rule is by the lowest-numbered one that can be used there
abbrev pub Goes : List Eq → State → State → Type 0
Goes rs x z = (y : State) × LowestMove rs x y × LowestMoves rs y z

-- there is space for a turn
pub record SpaceForTurn (w : Work) : Type 0 where
  pub slots : w.store.count + 33 ≤ w.store.limit
  pub roots : HasRoots w.roots.cells.now (w.roots.top + 3)
  pub frames : 4 * (w.frames.depth + 1) ≤ length w.frames.words.now

-- a turn can be taken
pub record Ready (k : Book) (low : ℕ) (w : Work) (c : Focus) : Type 0 where
  pub down : AllDown (rank (told k).ranks) (told k).rules
  pub running : Running (told k).rules low w c
  pub valid : Valid (told k) (state_in w c)

-- what is below the frames' roots is kept, and no words are lost
pub record KeptBelow (low : ℕ) (w v : Work) : Type 0 where
  pub room : v.store.room ≡ w.store.room
  pub cells : length v.roots.cells.now ≡ length w.roots.cells.now
  pub words : length v.frames.words.now ≡ length w.frames.words.now
  pub terms : (k : ℕ) → k < low → held v.store v.roots k ≡ held w.store w.roots k

-- a turn was taken
pub record TurnedTo (rs : List Eq) (low : ℕ) (w : Work) (c : Focus) (v : Work) (e : Focus) : Type 0 where
  pub holding : Holding rs w.store v.store
  pub running : Running rs low v e
  pub goes : Goes rs (state_in w c) (state_in v e)
  pub kept : KeptBelow low w v

-- it can be taken, whatever is below; and was
abbrev pub CanTurn : Book → Work → Focus → Type 0
CanTurn k w c = (low : ℕ) × Ready k low w c

abbrev pub TurnsFrom : Book → Work → Focus → Work → Focus → Type 0
TurnsFrom k w c v e = (low : ℕ) → Ready k low w c → TurnedTo (told k).rules low w c v e

-- the top frame, and its roots
pub record TopFrame (w : Work) (k : Frame) : Type 0 where
  pub some : 0 < w.frames.depth
  pub words : 4 * w.frames.depth ≤ length w.frames.words.now
  pub is : k ≡ frame_at w.frames.words.now (w.frames.depth - 1)
  pub few : k.others ≤ 3
  pub enough : k.others ≤ w.roots.top
  pub fits : HasRoots w.roots.cells.now w.roots.top

-- of the places ps 0, .., ps n all but the first are roots
pub record OthersPushed (ps : ℕ → ℕ) (q : Roots) (n : ℕ) (r : Roots) : Type 0 where
  pub cells : length r.cells.now ≡ length q.cells.now
  pub top : r.top ≡ q.top + n
  pub rest : (k : ℕ) → k < q.top → root_in r k ≡ root_in q k
  pub parts : (k : ℕ) → k < n → root_in r (q.top + k) ≡ ps (k + 1)

-- a known normal form, or none
abbrev pub KnownNormal : List Eq → Store → Place → Maybe Place → Type 0
KnownNormal rs st p (Some q) = NormalAt rs (term_in st p.0) st q
KnownNormal rs st p None = ⊤

-- the sign f is worked at, with n + 1 places for its parts
pub record BegunAt (w : Work) (f n : ℕ) (ps : List Place) (v : Work) (c : Focus) : Type 0 where
  pub store : v.store ≡ w.store
  pub roots : OthersPushed (λ k. (slice_index_or ps k (record { 0 = 0 })).0) w.roots n v.roots
  pub frames : FramePushed w.frames f n (slice_index_or ps 0 (record { 0 = 0 })) v.frames
  pub focus : c ≡ Eval (slice_index_or ps 0 (record { 0 = 0 }))

-- a turn by a rule; or no rule can be used, and nothing is changed
abbrev pub TurnsOrStill : Book → Work → Place → Work → Maybe Focus → Type 0
TurnsOrStill k w p v (Some c) = TurnsFrom k w (Eval p) v c
TurnsOrStill k w p v None = Still (told k).rules (term_in w.store p.0) × (v ≡ w)

-- the parts of a frame: its roots, and then v
pub record PartsGathered (q : Roots) (from1 n : ℕ) (v : Place) (ps : List Place) : Type 0 where
  pub others : (k : ℕ) → k < n → (slice_index_or ps k (record { 0 = 0 })).0 ≡ root_in q (from1 + k)
  pub last : slice_index_or ps n (record { 0 = 0 }) ≡ v
