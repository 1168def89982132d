-- Answers of yes or no that are exact.
use Rattle.std.specs.Prelude.{◌≡◌, Bool, true, false}

-- yes exactly if P holds
pub record Tells (r : Bool) (P : Type 0) : Type 0 where
  pub holds : r ≡ true → P
  pub fails : r ≡ false → P → ⊥
