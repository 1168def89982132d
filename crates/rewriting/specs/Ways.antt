-- Ways: for a rule the terms by which it is seen to follow from the equations.
use Rattle.std.specs.Prelude.{◌≡◌, List, [], ◌∷◌, ℕ}
use Rattle.rewriting.specs.Terms.{Term, Fits}
use Rattle.rewriting.specs.Rules.{Eq, Step}

-- from one term to another by one equation at one place, either way round
pub data One (es : List Eq) (t u : Term) : Type 0 where
  forth : Step es t u → One es t u
  forth_back : Step es u t → One es t u

-- a way from t to u: terms over the signature, each from the one before, the first from t, and the last is u
abbrev pub Way : List ℕ → List Eq → Term → List Term → Term → Type 0
Way ps es t [] u = t ≡ u
Way ps es t (v ∷ vs) u = Fits ps v × One es t v × Way ps es v vs u

-- a way for each rule, in order
abbrev pub Ways : List ℕ → List Eq → List Eq → List (List Term) → Type 0
Ways ps es [] [] = Unit {0}
Ways ps es [] (w ∷ ws) = ⊥
Ways ps es (r ∷ rs) [] = ⊥
Ways ps es (r ∷ rs) (w ∷ ws) = Way ps es r.left w r.right × Ways ps es rs ws
