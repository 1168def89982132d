-- The stack of roots by itself.
use Rattle.std.specs.Prelude.{◌≡◌, ℕ, ◌+◌, ◌-◌, ◌<◌, ◌≤◌, List, length, Ok, Err, Result, ◌≢◌, slice_index}
use Rattle.store.specs.declared.types.Roots.{Roots}
use Rattle.store.specs.declared.keys.Key.{Key}
use Rattle.store.specs.declared.types.Full.{Full}
use Rattle.store.specs.declared.types.Full.TheVariants.{NoRoot}
use Rattle.store.specs.declared.types.Order.{Order}
use Rattle.store.specs.declared.types.Order.TheVariants.{Up, Down}
use Rattle.store.specs.Slots.{kind_of, arity_of, note_at}
use Rattle.store.specs.Roots.{root_at, HasRoots}

-- root k
abbrev pub root_in : Roots → ℕ → ℕ
root_in r k = root_at r.cells.now k

-- root k is v, and nothing else is changed
pub record RootSet (q : Roots) (k v : ℕ) (r : Roots) : Type 0 where
  pub long : length r.cells.now ≡ length q.cells.now
  pub top : r.top ≡ q.top
  pub is : root_in r k ≡ v
  pub rest : (j : ℕ) → (j ≢ k) → root_in r j ≡ root_in q j

-- v in the place of the roots from one on
pub record StackedOn (q : Roots) (from1 v : ℕ) (r : Roots) : Type 0 where
  pub long : length r.cells.now ≡ length q.cells.now
  pub top : r.top ≡ from1 + 1
  pub is : root_in r from1 ≡ v
  pub rest : (j : ℕ) → (j ≢ from1) → root_in r j ≡ root_in q j

-- one more root, or as before for want of a cell
abbrev pub PushedOrFull : Roots → ℕ → Roots → Result (Unit {0}) Full → Type 0
PushedOrFull q v r (Ok _) = StackedOn q q.top v r × HasRoots r.cells.now r.top
PushedOrFull q v r (Err f) = (f ≡ NoRoot) × (r ≡ q) × (HasRoots q.cells.now (q.top + 1) → ⊥)

-- n roots, and their cells as they were
pub record CutTo (q : Roots) (n : ℕ) (r : Roots) : Type 0 where
  pub cells : r.cells.now ≡ q.cells.now
  pub top : r.top ≡ n

-- which of n roots, from one on, is part k
abbrev pub in_order : Order → ℕ → ℕ → ℕ → ℕ
in_order Up from1 n k = from1 + k
in_order Down from1 n k = from1 + (n - 1 - k)

-- the key with a head and the roots from one on as parts
pub record Gathered (head : ℕ) (r : Roots) (o : Order) (from1 : ℕ) (key : Key) : Type 0 where
  pub same_head : key.head ≡ head
  pub parts : (k : ℕ) → k < arity_of (kind_of head) → slice_index key.parts k ≡ root_in r (in_order o from1 (arity_of (kind_of head)) k)

-- the roots are slots below c
pub record RootsIn (r : Roots) (c : ℕ) : Type 0 where
  pub fits : HasRoots r.cells.now r.top
  pub low : (k : ℕ) → k < r.top → root_in r k < c

-- the first n roots are where the notes say that their slots moved to, and the others are as they were
pub record RootsMoved (ws : List ℕ) (q : Roots) (n : ℕ) (r : Roots) : Type 0 where
  pub long : length r.cells.now ≡ length q.cells.now
  pub top : r.top ≡ q.top
  pub moved : (k : ℕ) → k < n → root_in r k ≡ note_at ws (root_in q k) - 1
  pub rest : (k : ℕ) → n ≤ k → root_in r k ≡ root_in q k
