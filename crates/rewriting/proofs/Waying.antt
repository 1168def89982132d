-- Ways show that rules say no more than the equations, and whether something is a way can be told.
use mathlib.Core.Path.{◌≡◌, refl, sym, subst}
use mathlib.Core.Logic.{◌⊎◌, inl, inr}
use mathlib.Core.List.{List, [], ◌∷◌}
use mathlib.Core.Option.{some}
use Prim.Native.Nat.{ℕ}
use native.Mathlib.Decide.{ℕ_discrete}
use Rattle.rewriting.specs.Terms.{nth, Term, letter, sign, Terms, none1, and1, put}
use Rattle.rewriting.specs.Rules.{Eq, Equal, same, back, on, by, Step, below, Steps1, in_first, in_rest}
use Rattle.rewriting.specs.Ways.{One, forth, forth_back, Way, Ways}
use Rattle.rewriting.proofs.Choosing.{dec_map, dec_both, dec_either, Each, each_none, each_cons, each_or}
use Rattle.rewriting.proofs.Replacing.{put_letter}
use Rattle.rewriting.proofs.Stepping.{Top, top_step, FromSign, by_top, by_part, from_sign, from_letter}
use Rattle.rewriting.proofs.Signature.{dec_fits}
use Rattle.rewriting.proofs.Comparing.{dec_term, dec_terms}
use Rattle.rewriting.proofs.Matching.{dec_instance}
use Rattle.rewriting.proofs.Settling.{Follows, step_equal}

by_itself : (es : List Eq) → Each (Follows es) es
by_itself es i e h = let p = put_letter e.left in let q = put_letter e.right in rw p at (rw q at (by i e letter h))

one_equal : {es : List Eq} {t u : Term} → One es t u → Equal es t u
one_equal {es} (forth h) = step_equal es es (by_itself es) h
one_equal {es} (forth_back h) = back (step_equal es es (by_itself es) h)

pub way_equal : (ps : List ℕ) (es : List Eq) (t : Term) (vs : List Term) (u : Term) → Way ps es t vs u → Equal es t u
way_equal ps es t [] u h = subst (Equal es t) h same
way_equal ps es t (v ∷ vs) u h = on (one_equal h.1) (way_equal ps es v vs u h.2)

pub ways_equal : (ps : List ℕ) (es rs : List Eq) (ws : List (List Term)) → Ways ps es rs ws → Each (Follows es) rs
ways_equal ps es [] [] h = each_none (Follows es)
ways_equal ps es [] (w ∷ ws) h = absurd h
ways_equal ps es (r ∷ rs) [] h = absurd h
ways_equal ps es (r ∷ rs) (w ∷ ws) h = each_cons (Follows es) r rs
    (way_equal ps es r.left w r.right h.0) (ways_equal ps es rs ws h.1)

-- both sides of an equation at once, as one term
abbrev SidesAt : Term → Term → Eq → Type 0
SidesAt t u e = (s : ℕ → Term) × (put s e.left ≡ t) × (put s e.right ≡ u)

abbrev pair : Term → Term → Term
pair t u = sign 0 (and1 t (and1 u none1))

dec_sides : (t u : Term) (e : Eq) → Dec (SidesAt t u e)
dec_sides t u e = dec_map (λ m. let d = m.1 in (m.0, cc, cc)) (λ m. let p = m.1 in let q = m.2 in (m.0, cc))
    (dec_instance (pair e.left e.right) (pair t u))

pub dec_top : (rs : List Eq) (t u : Term) → Dec (Top rs t u)
dec_top rs t u = told (each_or (λ (r : Eq). SidesAt t u r → ⊥) (Top rs t u) rs (λ i r e. at i r e (dec_sides t u r)))
  where
    at : (i : ℕ) (r : Eq) → nth rs i ≡ some r → Dec (SidesAt t u r) → (SidesAt t u r → ⊥) ⊎ Top rs t u
    at i r e (yes m) = inr (record { i = i; r = r; s = m.0; has = e; from = sym m.1; to = sym m.2 })
    at i r e (no n) = inl n

    told : Each (λ (r : Eq). SidesAt t u r → ⊥) rs ⊎ Top rs t u → Dec (Top rs t u)
    told (inl none) = no λ a. none a.i a.r a.has (a.s, sym a.from, sym a.to)
    told (inr a) = yes a

-- a step between two terms is one of its cases, and the other way round
sign_cases : {rs : List Eq} {f g : ℕ} {ts us : Terms} →
    FromSign rs f ts (sign g us) → Top rs (sign f ts) (sign g us) ⊎ ((f ≡ g) × Steps1 rs ts us)
sign_cases (by_top a) = inl a
sign_cases (by_part h) = inr (refl, h)

sign_from : {rs : List Eq} {f g : ℕ} {ts us : Terms} →
    Top rs (sign f ts) (sign g us) ⊎ ((f ≡ g) × Steps1 rs ts us) → Step rs (sign f ts) (sign g us)
sign_from (inl a) = top_step a
sign_from {rs} {f} {g} {ts} {us} (inr h) = subst (λ (k : ℕ). Step rs (sign f ts) (sign k us)) h.0 (below h.1)

letter_case : {rs : List Eq} {f x : ℕ} {ts : Terms} → FromSign rs f ts (letter x) → Top rs (sign f ts) (letter x)
letter_case (by_top a) = a

and_cases : {rs : List Eq} {t u : Term} {ts us : Terms} →
    Steps1 rs (and1 t ts) (and1 u us) → (Step rs t u × (ts ≡ us)) ⊎ ((t ≡ u) × Steps1 rs ts us)
and_cases (in_first h) = inl (h, refl)
and_cases (in_rest h) = inr (refl, h)

and_from : {rs : List Eq} {t u : Term} {ts us : Terms} →
    (Step rs t u × (ts ≡ us)) ⊎ ((t ≡ u) × Steps1 rs ts us) → Steps1 rs (and1 t ts) (and1 u us)
and_from {rs} {t} {u} {ts} {us} (inl h) = subst (λ (vs : Terms). Steps1 rs (and1 t ts) (and1 u vs)) h.1 (in_first h.0)
and_from {rs} {t} {u} {ts} {us} (inr h) = subst (λ (v : Term). Steps1 rs (and1 t ts) (and1 v us)) h.0 (in_rest h.1)

mutual
  pub dec_step : (rs : List Eq) (t u : Term) → Dec (Step rs t u)
  dec_step rs (letter x) u = dec_map top_step (λ h. from_letter h x refl) (dec_top rs (letter x) u)
  dec_step rs (sign f ts) (letter y) = dec_map top_step (λ h. letter_case (from_sign h f ts refl)) (dec_top rs (sign f ts) (letter y))
  dec_step rs (sign f ts) (sign g us) = dec_map sign_from (λ h. sign_cases (from_sign h f ts refl))
      (dec_either (dec_top rs (sign f ts) (sign g us)) (dec_both (ℕ_discrete f g) (dec_steps1 rs ts us)))

  dec_steps1 : (rs : List Eq) (ts us : Terms) → Dec (Steps1 rs ts us)
  dec_steps1 rs none1 us = no λ h. elim h [ ]
  dec_steps1 rs (and1 t ts) none1 = no λ h. elim h [ ]
  dec_steps1 rs (and1 t ts) (and1 u us) = dec_map and_from and_cases
      (dec_either (dec_both (dec_step rs t u) (dec_terms ts us)) (dec_both (dec_term t u) (dec_steps1 rs ts us)))

-- and so ways
one_cases : {es : List Eq} {t u : Term} → One es t u → Step es t u ⊎ Step es u t
one_cases (forth h) = inl h
one_cases (forth_back h) = inr h

one_from : {es : List Eq} {t u : Term} → Step es t u ⊎ Step es u t → One es t u
one_from (inl h) = forth h
one_from (inr h) = forth_back h

pub dec_one : (es : List Eq) (t u : Term) → Dec (One es t u)
dec_one es t u = dec_map one_from one_cases (dec_either (dec_step es t u) (dec_step es u t))

pub dec_way : (ps : List ℕ) (es : List Eq) (t : Term) (vs : List Term) (u : Term) → Dec (Way ps es t vs u)
dec_way ps es t [] u = dec_term t u
dec_way ps es t (v ∷ vs) u = dec_map (λ h. (h.0, h.1.0, h.1.1)) (λ h. (h.0, (h.1, h.2)))
    (dec_both (dec_fits ps v) (dec_both (dec_one es t v) (dec_way ps es v vs u)))

pub dec_ways : (ps : List ℕ) (es rs : List Eq) (ws : List (List Term)) → Dec (Ways ps es rs ws)
dec_ways ps es [] [] = yes tt
dec_ways ps es [] (w ∷ ws) = no λ h. h
dec_ways ps es (r ∷ rs) [] = no λ h. h
dec_ways ps es (r ∷ rs) (w ∷ ws) = dec_both (dec_way ps es r.left w r.right) (dec_ways ps es rs ws)
