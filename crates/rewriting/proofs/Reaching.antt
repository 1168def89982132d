-- That steps lead from one term to another is given back by the bare fact that some do: a shortest chain can be found.
use Rattle.std.proofs.Common.{◌≡◌, ℕ, zero, suc, ◌<◌, ◌⊎◌, List, [], ◌∷◌, refl, sym, subst, inl, inr, arith}
use mathlib.Core.Path.{Σ_path}
use mathlib.Core.HLevel.{⊥_prop, Π_prop, ×_prop, is_prop→PathP}
use mathlib.Core.Logic.{∥∥₁_elim, ∥∥₁_map}
use Rattle.std.proofs.lemmas.Bool.{cases_order}
use Rattle.rewriting.specs.Terms.{Term}
use Rattle.rewriting.specs.Rules.{Eq, Step, Steps, stay, go}
use Rattle.rewriting.proofs.Comparing.{dec_term}
use Rattle.rewriting.proofs.Stepping.{NoNewLetters}
use Rattle.rewriting.proofs.Reducts.{Reduct, reducts, Has, first, next, has_step}

-- the least number for which something decidable holds
module _ (P : ℕ → Type 0) (dec : (n : ℕ) → Dec (P n)) where
  abbrev First : ℕ → Type 0
  First n = ((P n → ⊥) → ⊥) × ((m : ℕ) → m < n → P m → ⊥)

  abbrev Least : Type 0
  Least = (n : ℕ) × First n

  same : (x y : Least) → x.0 ≡ y.0
  same x y = elim (cases_order x.0 y.0) [
    | inl e ↦ e
    | inr (inl l) ↦ absurd (x.1.0 (y.1.1 x.0 l))
    | inr (inr l) ↦ absurd (y.1.0 (x.1.1 y.0 l))
  ]

  First-prop : (n : ℕ) → IsProp (First n)
  First-prop n = ×_prop (Π_prop λ _. ⊥_prop) (Π_prop λ _. Π_prop λ _. Π_prop λ _. ⊥_prop)

  Least-prop : IsProp Least
  Least-prop x y = Σ_path (same x y) (is_prop→PathP (λ i. First (same x y i)) (λ i. First-prop (same x y i)) x.1 y.1)

  -- it, or none is less than n
  below_or_none : (n : ℕ) → Least ⊎ ((m : ℕ) → m < n → P m → ⊥)
  below_or_none zero = inr λ m l. absurd (omega (arith, l))
  below_or_none (suc n) = further (below_or_none n) (dec n)
    where
      further : Least ⊎ ((m : ℕ) → m < n → P m → ⊥) → Dec (P n) → Least ⊎ ((m : ℕ) → m < suc n → P m → ⊥)
      further (inl x) d = inl x
      further (inr none) (yes p) = inl (n, ((λ k. k p), none))
      further (inr none) (no k) = inr λ m l p. elim (cases_order m n) [
        | inl e ↦ k (subst P e p)
        | inr (inl less) ↦ none m less p
        | inr (inr more) ↦ absurd (omega (arith, l, more))
      ]

  least_of : (n : ℕ) → P n → Least
  least_of n p = elim (below_or_none (suc n)) [
    | inl x ↦ x
    | inr none ↦ absurd (none n (omega arith) p)
  ]

  pub found_again : ∥ ((n : ℕ) × P n) ∥₁ → ((n : ℕ) × P n)
  found_again h =
      let x = ∥∥₁_elim h Least-prop (λ p. least_of p.0 p.1) in
      elim (dec x.0) [
        | yes p ↦ (x.0, p)
        | no n ↦ absurd (x.1.0 n)
      ]

module _ (rs : List Eq) where
  -- a chain of n steps
  abbrev Chain : ℕ → Term → Term → Type 0
  Chain zero t v = t ≡ v
  Chain (suc n) t v = (u : Term) × (Step rs t u × Chain n u v)

  chain_steps : (n : ℕ) (t v : Term) → Chain n t v → Steps rs t v
  chain_steps zero t v e = subst (Steps rs t) e stay
  chain_steps (suc n) t v (u, (h, c)) = go h (chain_steps n u v c)

  steps_chain : {t v : Term} → Steps rs t v → (n : ℕ) × Chain n t v
  steps_chain stay = (zero, refl)
  steps_chain (go {u = u} h k) = let c = steps_chain k in (suc c.0, (u, (h, c.1)))

  -- one of the first steps in a list begins a chain
  some_chain : (n : ℕ) (t v : Term) → ((u : Term) → Dec (Chain n u v)) → (ps : List (Reduct rs t)) →
      Chain (suc n) t v ⊎ ((u : Term) → Has u ps → Chain n u v → ⊥)
  some_chain n t v dec [] = inr λ u h. elim h [ ]
  some_chain n t v dec (p ∷ ps) = at (dec p.0) (some_chain n t v dec ps)
    where
      at : Dec (Chain n p.0 v) → Chain (suc n) t v ⊎ ((u : Term) → Has u ps → Chain n u v → ⊥) →
          Chain (suc n) t v ⊎ ((u : Term) → Has u (p ∷ ps) → Chain n u v → ⊥)
      at (yes c) rest = inl (p.0, (p.1, c))
      at (no k) (inl c) = inl c
      at (no k) (inr none) = inr λ u h c. elim h [
        | first e ↦ k (subst (λ (w : Term). Chain n w v) (sym e) c)
        | next l ↦ none u l c
      ]

  module _ (keep : NoNewLetters rs) where
    dec_chain : (n : ℕ) (t v : Term) → Dec (Chain n t v)
    dec_chain zero t v = dec_term t v
    dec_chain (suc n) t v = at (some_chain n t v (λ u. dec_chain n u v) (reducts rs t))
      where
        at : Chain (suc n) t v ⊎ ((u : Term) → Has u (reducts rs t) → Chain n u v → ⊥) → Dec (Chain (suc n) t v)
        at (inl c) = yes c
        at (inr none) = no λ c. none c.0 (has_step rs keep c.1.0) c.1.1

    pub steps_again : {t v : Term} → ∥ Steps rs t v ∥₁ → Steps rs t v
    steps_again {t} {v} h =
        let c = found_again (λ n. Chain n t v) (λ n. dec_chain n t v) (∥∥₁_map h steps_chain) in
        chain_steps c.0 t v c.1
