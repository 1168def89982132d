-- Terms are told apart, and told greater or not.
use mathlib.Core.Path.{◌≡◌, refl, sym, ap, subst}
use mathlib.Core.Logic.{◌⊎◌, inl, inr}
use Prim.Native.Nat.{ℕ, ◌<◌}
use native.Mathlib.Omega.{arith}
use native.Mathlib.Decide.{ℕ_discrete, dec_lt}
use Rattle.rewriting.specs.Terms.{Term, letter, sign, Terms, none1, and1}
use Rattle.rewriting.specs.Order.{Rank, Greater, by_part, by_sign, by_order, SomeAtLeast, this_is, this_more, later}
use Rattle.rewriting.specs.Order.{AllLess, none_there, this_less, FirstGreater, here, further}
use Rattle.rewriting.proofs.Choosing.{dec_map, dec_both, dec_either}

pub letter_not_sign : {x f : ℕ} {ts : Terms} → letter x ≡ sign f ts → ⊥
letter_not_sign e = let z : ◌≡◌ {A = ℕ} 0 1 = cc in omega arith

pub none_not_and : {t : Term} {ts : Terms} → none1 ≡ and1 t ts → ⊥
none_not_and e = let z : ◌≡◌ {A = ℕ} 0 1 = cc in omega arith

sign_of : (f g : ℕ) (ts us : Terms) → Dec (f ≡ g) → Dec (ts ≡ us) → Dec (sign f ts ≡ sign g us)
sign_of f g ts us e d = dec_map (λ h. let p = h.0 in let q = h.1 in cc) (λ p. (cc, cc)) (dec_both e d)

and_of : (t u : Term) (ts us : Terms) → Dec (t ≡ u) → Dec (ts ≡ us) → Dec (and1 t ts ≡ and1 u us)
and_of t u ts us e d = dec_map (λ h. let p = h.0 in let q = h.1 in cc) (λ p. (cc, cc)) (dec_both e d)

mutual
  pub dec_term : (t u : Term) → Dec (t ≡ u)
  dec_term (letter x) (letter y) = dec_map (ap letter) (λ e. cc) (ℕ_discrete x y)
  dec_term (letter x) (sign g us) = no letter_not_sign
  dec_term (sign f ts) (letter y) = no λ e. letter_not_sign (sym e)
  dec_term (sign f ts) (sign g us) = sign_of f g ts us (ℕ_discrete f g) (dec_terms ts us)

  pub dec_terms : (ts us : Terms) → Dec (ts ≡ us)
  dec_terms none1 none1 = yes refl
  dec_terms none1 (and1 u us) = no none_not_and
  dec_terms (and1 t ts) none1 = no λ e. none_not_and (sym e)
  dec_terms (and1 t ts) (and1 u us) = and_of t u ts us (dec_term t u) (dec_terms ts us)

-- a comparison is one of its cases, and the other way round
module _ (rk : Rank) where
  some_cases : {t u : Term} {ts : Terms} → SomeAtLeast rk (and1 t ts) u → (t ≡ u) ⊎ (Greater rk t u ⊎ SomeAtLeast rk ts u)
  some_cases this_is = inl refl
  some_cases (this_more g) = inr (inl g)
  some_cases (later p) = inr (inr p)

  some_from : {t u : Term} {ts : Terms} → (t ≡ u) ⊎ (Greater rk t u ⊎ SomeAtLeast rk ts u) → SomeAtLeast rk (and1 t ts) u
  some_from {t} {u} {ts} (inl e) = subst (λ (v : Term). SomeAtLeast rk (and1 t ts) v) e this_is
  some_from (inr (inl g)) = this_more g
  some_from (inr (inr p)) = later p

  first_cases : {t u : Term} {ts us : Terms} →
      FirstGreater rk (and1 t ts) (and1 u us) → Greater rk t u ⊎ ((t ≡ u) × FirstGreater rk ts us)
  first_cases (here g) = inl g
  first_cases (further o) = inr (refl, o)

  first_from : {t u : Term} {ts us : Terms} →
      Greater rk t u ⊎ ((t ≡ u) × FirstGreater rk ts us) → FirstGreater rk (and1 t ts) (and1 u us)
  first_from (inl g) = here g
  first_from {t} {u} {ts} {us} (inr h) = subst (λ (v : Term). FirstGreater rk (and1 t ts) (and1 v us)) h.0 (further h.1)

  less_cases : {t u : Term} {us : Terms} → AllLess rk t (and1 u us) → Greater rk t u × AllLess rk t us
  less_cases (this_less g h) = (g, h)

  letter_cases : {f x : ℕ} {ts : Terms} → Greater rk (sign f ts) (letter x) → SomeAtLeast rk ts (letter x)
  letter_cases (by_part p) = p

  abbrev SignCases : (f g : ℕ) (ts us : Terms) → Type 0
  SignCases f g ts us =
      SomeAtLeast rk ts (sign g us) ⊎ (((rk g < rk f) ⊎ ((f ≡ g) × FirstGreater rk ts us)) × AllLess rk (sign f ts) us)

  sign_cases : {f g : ℕ} {ts us : Terms} → Greater rk (sign f ts) (sign g us) → SignCases f g ts us
  sign_cases (by_part p) = inl p
  sign_cases (by_sign l h) = inr (inl l, h)
  sign_cases (by_order o h) = inr (inr (refl, o), h)

  sign_from : {f g : ℕ} {ts us : Terms} → SignCases f g ts us → Greater rk (sign f ts) (sign g us)
  sign_from (inl p) = by_part p
  sign_from (inr (inl l, h)) = by_sign l h
  sign_from {f} {g} {ts} {us} (inr (inr o, h)) = subst (λ (k : ℕ). Greater rk (sign f ts) (sign k us)) o.0 (by_order o.1 h)

  -- a sign with parts against a term, told by what is told of the parts
  module _ (f : ℕ) (ts : Terms) (some? : (u : Term) → Dec (SomeAtLeast rk ts u))
      (first? : (us : Terms) → Dec (FirstGreater rk ts us)) where
    mutual
      sign_greater : (u : Term) → Dec (Greater rk (sign f ts) u)
      sign_greater (letter x) = dec_map by_part letter_cases (some? (letter x))
      sign_greater (sign g us) = dec_map sign_from sign_cases (dec_either (some? (sign g us))
          (dec_both (dec_either (dec_lt (rk g) (rk f)) (dec_both (ℕ_discrete f g) (first? us))) (sign_less us)))

      sign_less : (us : Terms) → Dec (AllLess rk (sign f ts) us)
      sign_less none1 = yes none_there
      sign_less (and1 u us) = dec_map (λ h. this_less h.0 h.1) less_cases (dec_both (sign_greater u) (sign_less us))

  mutual
    pub dec_greater : (t u : Term) → Dec (Greater rk t u)
    dec_greater (letter x) u = no λ g. elim g [ ]
    dec_greater (sign f ts) u = sign_greater f ts (dec_at_least ts) (dec_first ts) u

    dec_at_least : (ts : Terms) (u : Term) → Dec (SomeAtLeast rk ts u)
    dec_at_least none1 u = no λ p. elim p [ ]
    dec_at_least (and1 t ts) u =
        dec_map some_from some_cases (dec_either (dec_term t u) (dec_either (dec_greater t u) (dec_at_least ts u)))

    dec_first : (ts us : Terms) → Dec (FirstGreater rk ts us)
    dec_first none1 us = no λ o. elim o [ ]
    dec_first (and1 t ts) none1 = no λ o. elim o [ ]
    dec_first (and1 t ts) (and1 u us) =
        dec_map first_from first_cases (dec_either (dec_greater t u) (dec_both (dec_term t u) (dec_first ts us)))
