-- Cells in lent words: a slot is eight cells, each a number of two words.
use Rattle.std.specs.Prelude.{◌≡◌, ℕ, ◌+◌, ◌*◌, ◌<◌, ◌≤◌, List, length, ◌≢◌}
use Rattle.store.specs.Numbers.{number_in}

-- cell k of slot i
unfoldable pub cell : List ℕ → ℕ → ℕ → ℕ
cell ws i k = number_in ws (16 * i + 2 * k)

-- slot i is there
abbrev pub HasSlot : List ℕ → ℕ → Type 0
HasSlot ws i = 16 * i + 16 ≤ length ws

-- v is put into cell k of slot i, and no other cell is changed
pub record CellPut (vs : List ℕ) (i k v : ℕ) (ws : List ℕ) : Type 0 where
  pub is : cell ws i k ≡ v
  pub rest : (j m : ℕ) → m < 8 → (j ≡ i → m ≢ k) → cell ws j m ≡ cell vs j m

-- cell k of each of the first n slots is cleared, and no other cell is changed
pub record Cleared (vs : List ℕ) (n k : ℕ) (ws : List ℕ) : Type 0 where
  pub is : (j : ℕ) → j < n → cell ws j k ≡ 0
  pub rest : (j m : ℕ) → m < 8 → (j < n → m ≢ k) → cell ws j m ≡ cell vs j m
