-- Replacements that differ in the names of letters alone.
use Rattle.std.specs.Prelude.{◌≡◌, ℕ}
use Rattle.rewriting.specs.Terms.{Term, letter, put}

-- each is had from the other by other names for letters (they are variants of each other)
pub record Alike (s r : ℕ → Term) : Type 0 where
  pub there : ℕ → ℕ
  pub back : ℕ → ℕ
  pub by_there : (x : ℕ) → r x ≡ put (λ z. letter (there z)) (s x)
  pub by_back : (x : ℕ) → s x ≡ put (λ z. letter (back z)) (r x)
