-- What unification asks for, and what it tells.
use Rattle.std.specs.Prelude.{◌≡◌, ℕ, ◌+◌, ◌<◌, ◌≤◌, Bool, true, false, Some, None, Option as Maybe, ◌≢◌}
use Rattle.rewriting.specs.Terms.{Term, letter, put}
use Rattle.rewriting.specs.Overlaps.{Least}
use Rattle.store.specs.declared.types.Store.{Store}
use Rattle.store.specs.declared.types.Place.{Place}
use Rattle.store.specs.Stores.{Sound, term_in}
use Rattle.engine.specs.declared.types.Bindings.{Bindings}
use Rattle.engine.specs.Matching.{bound, put_in, AllInside, Bound}

-- each letter below 32 is bound to its own place
abbrev pub LettersBound : Store → Bindings → Type 0
LettersBound st b = (x : ℕ) → x < 32 → (p : Place) × (bound b x ≡ Some p) × (p.0 < st.count) × (term_in st p.0 ≡ letter x)

-- the letters that stand in a store are below 32; all these stand in it
abbrev pub LettersLow : Store → Type 0
LettersLow st = (i x : ℕ) → i < st.count → term_in st i ≡ letter x → x < 32

abbrev pub LettersStand : Store → Type 0
LettersStand st = (x : ℕ) → x < 32 → (i : ℕ) × (i < st.count) × (term_in st i ≡ letter x)

-- where they stand, if the letters of the store are just those below 32
abbrev pub LettersFound : Store → Maybe Bindings → Type 0
LettersFound st (Some b) = LettersLow st × LettersBound st b
LettersFound st None = LettersLow st → LettersStand st → ⊥

-- whether all 32 letters are bound
abbrev pub AllBound : Bindings → Bool → Type 0
AllBound b true = (x : ℕ) → x < 32 → Bound b x
AllBound b false = (x : ℕ) × (x < 32) × (bound b x ≡ None)

-- a small store with as much space as unification may need; its letters are below 32, and where they stand is known
pub record Ready (st : Store) (b : Bindings) : Type 0 where
  pub sound : Sound st
  pub few : st.count ≤ 96
  pub space : st.count + 96 ≤ st.limit
  pub low : LettersLow st
  pub letters : LettersBound st b

-- bindings for all 32 letters: the least replacement (most general unifier) that makes two terms one
pub record Unifier (st : Store) (b : Bindings) (t u : Term) : Type 0 where
  pub all : (x : ℕ) → x < 32 → Bound b x
  pub inside : AllInside st b
  pub one : put (put_in st b) t ≡ put (put_in st b) u
  pub most : (r : ℕ → Term) → put r t ≡ put r u → (x : ℕ) → r x ≡ put r (put_in st b x)

abbrev pub least_of : {st : Store} {b : Bindings} {t u : Term} → Unifier st b t u → Least t u
least_of {st} {b} w = record { s = put_in st b; one = w.one; most = w.most }

-- such bindings; or nothing makes the two terms one
abbrev pub Unified : Store → Term → Term → Maybe Bindings → Type 0
Unified st t u (Some b) = Unifier st b t u
Unified st t u None = (r : ℕ → Term) → put r t ≢ put r u
