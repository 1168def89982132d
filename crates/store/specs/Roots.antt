-- Roots: a number of two words for each.
use Rattle.std.specs.Prelude.{◌≡◌, ℕ, ◌*◌, ◌≤◌, List, length, ◌≢◌}
use Rattle.store.specs.Numbers.{number_in}

unfoldable pub root_at : List ℕ → ℕ → ℕ
root_at qs k = number_in qs (2 * k)

-- n roots fit
abbrev pub HasRoots : List ℕ → ℕ → Type 0
HasRoots qs n = 2 * n ≤ length qs

-- root i is v, and no other root is changed
pub record RootPut (qs : List ℕ) (i v : ℕ) (rs : List ℕ) : Type 0 where
  pub is : root_at rs i ≡ v
  pub rest : (j : ℕ) → (j ≢ i) → root_at rs j ≡ root_at qs j
