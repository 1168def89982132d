-- Numbers of 64 bits in lent words: two words each, the low one first.
use Rattle.std.specs.Prelude.{◌≡◌, ℕ, ◌+◌, ◌*◌, List, ◌≢◌, slice_index}

unfoldable pub number_in : List ℕ → ℕ → ℕ
number_in ws a = slice_index ws a + 4294967296 * slice_index ws (a + 1)

-- v is put at a place, and no other word is changed
pub record NumberPut (vs : List ℕ) (a v : ℕ) (ws : List ℕ) : Type 0 where
  pub is : number_in ws a ≡ v
  pub rest : (b : ℕ) → (b ≢ a) → (b ≢ a + 1) → slice_index ws b ≡ slice_index vs b
