-- Places of built terms: the last ones taken, and a store that grows under them.
use Rattle.std.proofs.Common.{◌≡◌, ℕ, zero, suc, ◌+◌, ◌-◌, ◌<◌, ◌≤◌, List, [], ◌∷◌, ◌++◌, length, get_or, take, drop, Some, sym, refl, ap}
use Rattle.std.proofs.Common.{◌∙◌}
use Rattle.std.proofs.Common.{subst, ap₂, arith, get_or-take, length-take-le, take_all, take-take, take-append-drop}
use Rattle.std.proofs.lemmas.List.{take_more}
use Rattle.rewriting.specs.Terms.{Term, sign, Terms, none1, and1, glue, count}
use Rattle.rewriting.proofs.Glueing.{count_glue}
use Rattle.store.specs.declared.types.Store.{Store}
use Rattle.store.specs.declared.types.Place.{Place}
use Rattle.store.specs.Slots.{parts_by}
use Rattle.store.specs.Stores.{Grown, term_in}
use Rattle.store.specs.Making.{terms_at, SignShared}
use Rattle.engine.specs.declared.types.Bindings.{Bindings}
use Rattle.engine.specs.Matching.{bound, term_or, put_in, AllInside, stacked, PlacesInside}
use Rattle.engine.specs.Building.{Taken}
use Rattle.engine.proofs.Pendings.{zero_place, stacked_more, inside_below}

pub stacked_count : (st : Store) (ps : List Place) → count (stacked st ps) ≡ length ps
stacked_count st [] = refl
stacked_count st (p ∷ ps) = omega (arith, stacked_count st ps, count_glue (stacked st ps) (and1 (term_in st p.0) none1))

-- a store that has grown
pub stacked_grown : (st su : Store) (ps : List Place) → Grown st su → PlacesInside st ps → stacked su ps ≡ stacked st ps
stacked_grown st su [] g h = refl
stacked_grown st su (p ∷ ps) g h =
    ap₂ (λ (ts : Terms) (t : Term). glue ts (and1 t none1)) (stacked_grown st su ps g (λ d l. h (suc d) (omega arith)))
    (g.terms p.0 (h 0 (omega arith)))

pub inside_grown : (st su : Store) (ps : List Place) → Grown st su → PlacesInside st ps → PlacesInside su ps
inside_grown st su ps g h d l = let k = h d l in let m = g.longer in omega arith

-- the last of some places, and those below it
apart : (ps : List Place) (m : ℕ) → length ps ≡ suc m → ps ≡ take m ps ++ get_or ps m zero_place ∷ []
apart ps m l =
    let e : m + 1 ≡ suc m = omega arith in
    sym (take_all (suc m) ps (omega arith)) ∙ (ap (λ (k : ℕ). take k ps) (sym e) ∙ take_more ps m zero_place (omega arith))

-- the last n places taken as parts
parts_from : (st : Store) (ps xs : List Place) (n j : ℕ) (vs us : Terms) → count vs ≡ n → n ≤ length ps →
    ((k : ℕ) → j ≤ k → k < j + n → get_or xs k zero_place ≡ get_or ps (length ps + j - 1 - k) zero_place) → stacked st ps ≡ glue vs us →
    (parts_by (λ i. term_in st i) (λ k. (get_or xs k zero_place).0) j n ≡ vs) × (stacked st (take (length ps - n) ps) ≡ us)
parts_from st ps xs zero j none1 us c l h e = (refl, ap (stacked st) (take_all (length ps - 0) ps (omega arith)) ∙ e)
parts_from st ps xs zero j (and1 v vs) us c l h e = absurd (omega arith)
parts_from st ps xs (suc n) j none1 us c l h e = absurd (omega arith)
parts_from st ps xs (suc n) j (and1 v vs) us c l h e =
    let m = length ps - 1 in
    let low = take m ps in
    let long : length low ≡ m = length-take-le m ps (omega arith) in
    let split : stacked st ps ≡ and1 (term_in st (get_or ps m zero_place).0) (stacked st low) =
    ap (stacked st) (apart ps m (omega arith)) ∙ stacked_more st low (get_or ps m zero_place) in
    let both : and1 (term_in st (get_or ps m zero_place).0) (stacked st low) ≡ and1 v (glue vs us) = sym split ∙ e in
    let top : term_in st (get_or ps m zero_place).0 ≡ v = cc in
    let rest : stacked st low ≡ glue vs us = cc in
    let z : length ps + j - 1 - j ≡ m = omega arith in
    let first : get_or xs j zero_place ≡ get_or ps m zero_place =
    h j (omega arith) (omega arith) ∙ ap (λ (k : ℕ). get_or ps k zero_place) z in
    let i = parts_from st low xs n (j + 1) vs us (omega arith) (omega arith)
    (λ k a b. let y : length ps + j - 1 - k ≡ length low + (j + 1) - 1 - k = omega arith in
    h k (omega arith) (omega arith) ∙ (ap (λ (d : ℕ). get_or ps d zero_place) y
    ∙ sym (get_or-take m ps (length low + (j + 1) - 1 - k) zero_place (omega arith)))) rest in
    let w : length low - n ≡ length ps - suc n = omega arith in (
      ap₂ and1 (ap (λ (p : Place). term_in st p.0) first ∙ top) i.0,
      ap (stacked st) (sym (ap (λ (k : ℕ). take k low) w ∙ take-take (length ps - suc n) m ps (omega arith))) ∙ i.1,
    )

module _ (st : Store) (q : List Place) (n : ℕ) (xs r : List Place) (t : Taken q n xs r) where
  pub parts_taken : (vs us : Terms) → n ≤ length q → count vs ≡ n → stacked st q ≡ glue vs us →
      (terms_at st xs n ≡ vs) × (stacked st r ≡ us)
  parts_taken vs us l c e =
      let i = parts_from st q xs n 0 vs us c l
      (λ k a b. let z : length q - 1 - k ≡ length q + 0 - 1 - k = omega arith in
      t.parts k (omega arith) ∙ ap (λ (d : ℕ). get_or q d zero_place) z) e in
      (i.0, ap (stacked st) t.rest ∙ i.1)

  pub taken_inside : PlacesInside st q → PlacesInside st r
  taken_inside h =
      subst (PlacesInside st) (sym t.rest)
      (inside_below st (take (length q - n) q) (drop (length q - n) q)
      (subst (PlacesInside st) (sym (take-append-drop (length q - n) q)) h))

  -- a sign in the place of its parts
  pub sign_on_top : (f : ℕ) (su : Store) (p : Place) (u : List Place) (vs us : Terms) → SignShared st f xs n su p →
      u ≡ r ++ p ∷ [] → PlacesInside st q → n ≤ length q → count vs ≡ n → stacked st q ≡ glue vs us →
      stacked su u ≡ and1 (sign f vs) us
  sign_on_top f su p u vs us s o h l c e =
      let i = parts_taken vs us l c e in
      ap (stacked su) o ∙ (stacked_more su r p
      ∙ ap₂ and1 (s.term ∙ ap (sign f) i.0) (stacked_grown st su r s.grown (taken_inside h) ∙ i.1))

-- what is put for letters stays
pub put_in_bound : (st : Store) (b : Bindings) (x : ℕ) (p : Place) → bound b x ≡ Some p → put_in st b x ≡ term_in st p.0
put_in_bound st b x p e = ap (term_or st x) e

pub put_in_grown : (st su : Store) (b : Bindings) (x : ℕ) (p : Place) → Grown st su → AllInside st b → bound b x ≡ Some p →
    put_in su b x ≡ put_in st b x
put_in_grown st su b x p g h e = put_in_bound su b x p e ∙ g.terms p.0 (h x p e) ∙ sym (put_in_bound st b x p e)
