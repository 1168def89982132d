-- Marks, in the cells of notes: 0 where a slot is not marked.
use Rattle.std.specs.Prelude.{◌≡◌, ℕ, ◌<◌, ◌≤◌, List, ◌≢◌}
use Rattle.rewriting.specs.Rules.{Part}
use Rattle.store.specs.Cells.{cell}
use Rattle.store.specs.Slots.{arity_at, part_at, last_at, note_at, term_of, SameNodes}

abbrev pub Marked : List ℕ → ℕ → Type 0
Marked ws i = note_at ws i ≡ 0 → ⊥

-- the parts of what is marked are marked
abbrev pub Closed : List ℕ → ℕ → Type 0
Closed ws c = (i k : ℕ) → i < c → Marked ws i → k < arity_at ws i → Marked ws (part_at ws i k)

-- what is reached from the marked slots below c, by parts of parts
pub data Reached (ws : List ℕ) (c : ℕ) : ℕ → Type 0 where
  from_mark : {i : ℕ} → i < c → Marked ws i → Reached ws c i
  by_part : {i : ℕ} (k : ℕ) → Reached ws c i → k < arity_at ws i → Reached ws c (part_at ws i k)

-- p 0, .. p (n - 1) are marked besides
pub record MarkedToo (p : ℕ → ℕ) (n : ℕ) (vs ws : List ℕ) : Type 0 where
  pub nodes : SameNodes vs ws
  pub these : (k : ℕ) → k < n → Marked ws (p k)
  pub kept : (j : ℕ) → Marked vs j → Marked ws j
  pub rest : (j : ℕ) → ((k : ℕ) → k < n → p k ≢ j) → note_at ws j ≡ note_at vs j
  pub only : (j : ℕ) → Marked ws j → (Marked vs j → ⊥) → (k : ℕ) × (k < n) × (p k ≡ j)

-- what marking comes to, once the slots from lo to c have passed their marks on
pub record AllMarked (lo c : ℕ) (vs ws : List ℕ) : Type 0 where
  pub nodes : SameNodes vs ws
  pub kept : (j : ℕ) → Marked vs j → Marked ws j
  pub closed : (i k : ℕ) → lo ≤ i → i < c → Marked ws i → k < arity_at vs i → Marked ws (part_at vs i k)
  pub only : (j : ℕ) → j < c → Marked ws j → Reached vs c j

-- the notes and the buckets of the first n slots are cleared, and no other cell is changed
pub record Unmarked (vs : List ℕ) (n : ℕ) (ws : List ℕ) : Type 0 where
  pub notes : (j : ℕ) → j < n → note_at ws j ≡ 0
  pub lasts : (j : ℕ) → j < n → last_at ws j ≡ 0
  pub rest : (j m : ℕ) → m < 8 → (j < n → m < 6) → cell ws j m ≡ cell vs j m

-- the roots q 0, .. q (t - 1) and their parts are marked, and nothing else
pub record RootsMarked (vs : List ℕ) (c : ℕ) (q : ℕ → ℕ) (t : ℕ) (ws : List ℕ) : Type 0 where
  pub nodes : SameNodes vs ws
  pub closed : Closed ws c
  pub roots : (k : ℕ) → k < t → Marked ws (q k)
  pub only : (j : ℕ) → j < c → Marked ws j → (k : ℕ) × (k < t) × Part (term_of vs j) (term_of vs (q k))
