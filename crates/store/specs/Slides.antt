-- Slots that move down, and what a collection comes to.
use Rattle.std.specs.Prelude.{◌≡◌, ℕ, ◌-◌, ◌<◌, ◌≤◌, List, slice_index}
use Rattle.rewriting.specs.Rules.{Part}
use Rattle.rewriting.specs.Different.{different, listed}
use Rattle.store.specs.declared.keys.Key.{Key}
use Rattle.store.specs.Cells.{cell}
use Rattle.store.specs.Slots.{flag_of, arity_at, part_at, note_at, term_of, Shared}
use Rattle.store.specs.Marks.{Marked}

-- the key of slot i, with its parts' new places
pub record Translated (ws : List ℕ) (i : ℕ) (key : Key) : Type 0 where
  pub head : key.head ≡ cell ws i 0
  pub parts : (k : ℕ) → k < arity_at ws i → slice_index key.parts k ≡ note_at ws (part_at ws i k) - 1

-- the old slot j is the new slot f - 1
pub record Moved (vs : List ℕ) (j : ℕ) (ws : List ℕ) (n f : ℕ) : Type 0 where
  pub some : 0 < f
  pub inside : f ≤ n
  pub head : cell ws (f - 1) 0 ≡ cell vs j 0
  pub term : term_of ws (f - 1) ≡ term_of vs j

-- the new slot m was a marked one below c
pub record Came (vs : List ℕ) (c : ℕ) (ws : List ℕ) (m : ℕ) : Type 0 where
  pub of : ℕ
  pub old : of < c
  pub marked : Marked vs of
  pub head : cell ws m 0 ≡ cell vs of 0
  pub term : term_of ws m ≡ term_of vs of

-- the marked slots below i are the first n now, and their notes say where they moved to
pub record Slid (vs : List ℕ) (i : ℕ) (ws : List ℕ) (n : ℕ) : Type 0 where
  pub less : n ≤ i
  pub high : (j k : ℕ) → i ≤ j → k < 6 → cell ws j k ≡ cell vs j k
  pub ahead : (j : ℕ) → i ≤ j → note_at ws j ≡ note_at vs j
  pub shared : Shared ws n
  pub to : (j : ℕ) → j < i → Marked vs j → Moved vs j ws n (note_at ws j)
  pub from : (m : ℕ) → m < n → Came vs i ws m

-- slot m was one of the c, with its flag
pub record Was (vs : List ℕ) (c : ℕ) (ws : List ℕ) (m : ℕ) : Type 0 where
  pub of : ℕ
  pub old : of < c
  pub term : term_of ws m ≡ term_of vs of
  pub flag : flag_of (cell ws m 0) ≡ flag_of (cell vs of 0)

-- of c slots n are left, for the roots q 0, .. q (t - 1), which are r 0, .. r (t - 1) now
pub record Collected (vs : List ℕ) (c : ℕ) (q : ℕ → ℕ) (t : ℕ) (ws : List ℕ) (n : ℕ) (r : ℕ → ℕ) : Type 0 where
  pub shared : Shared ws n
  pub less : n ≤ c
  -- each root is inside and stands for the term that it did
  pub inside : (k : ℕ) → k < t → r k < n
  pub term : (k : ℕ) → k < t → term_of ws (r k) ≡ term_of vs (q k)
  -- each slot that is left was there, and stands for a part of a root's term
  pub was : (m : ℕ) → m < n → Was vs c ws m
  pub wanted : (m : ℕ) → m < n → (k : ℕ) × (k < t) × Part (term_of ws m) (term_of vs (q k))
  pub count : n ≤ different (listed (λ k. term_of vs (q k)) t)
  pub notes : (m : ℕ) → m < n → note_at ws m ≡ 0
