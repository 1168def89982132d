-- The letters of a store, found place by place; and an array that is made of them.
use Rattle.std.specs.Prelude.{MatchBool}
use Rattle.std.specs.Bool.{then_some}
use Rattle.std.specs.List.{AllWithin, HoldsAt}
use Rattle.std.specs.Array.{IsElementAt, IsFromFnResultFrom}
use Rattle.std.specs.Fn.{Called, Mut}
use Rattle.std.proofs.Common.{◌≡◌, ℕ, zero, suc, ◌+◌, ◌<◌, ◌≤◌, ◌≢◌, Bool, true, false, is_some, List, length, get_or, set, replicate}
use Rattle.std.proofs.Common.{Some, None, Option as Maybe, sym, ap, ◌∙◌, subst, eq-or-lt_of_le}
use Rattle.std.proofs.Common.{⊎_elim, arith, length-set, get_or-set_other, get_or-set_same}
use lib.ListN.{length-replicate, get_or-replicate}
use Rattle.std.proofs.lemmas.List.{get_or_past}
use Rattle.rewriting.specs.Terms.{letter, sign, Terms}
use Rattle.store.specs.declared.types.Store.{Store}
use Rattle.store.specs.declared.types.Place.{Place}
use Rattle.store.specs.Stores.{Sound, term_in}
use Rattle.store.proofs.Cases.{eq_or, le_or_lt, last_or_below}
use Rattle.store.proofs.Telling.{one_place}
use Rattle.engine.specs.declared.types.Bindings.{Bindings}
use Rattle.engine.specs.Matching.{bound, Bound}
use Rattle.unification.specs.Unifiers.{LettersBound, LettersLow, LettersStand, LettersFound, AllBound}
use Rattle.unification.proofs.Built.{some_is_none, same_place, place_of, none_of}

-- the letters at the first n places are bound to them, and no others are bound
pub record FoundBelow (st : Store) (n : ℕ) (b : Bindings) : Type 0 where
  pub long : length b.at ≡ 32
  pub low : (i x : ℕ) → i < n → term_in st i ≡ letter x → x < 32
  pub found : (i x : ℕ) → i < n → term_in st i ≡ letter x → bound b x ≡ Some (record { 0 = i })
  pub stands : (x : ℕ) (p : Place) → bound b x ≡ Some p → (p.0 < n) × (term_in st p.0 ≡ letter x)

none_bound : (b : Bindings) → b.at ≡ replicate 32 None → (x : ℕ) → bound b x ≡ None
none_bound b e x = ap (λ (v : List (Maybe Place)). get_or v x None) e ∙ ⊎_elim
    (λ l. get_or_past (replicate 32 None) x None (omega (arith, length-replicate {A = Maybe Place} 32 None)))
    (λ l. get_or-replicate 32 x None None l) (le_or_lt 32 x)

pub found_none : (st : Store) (b : Bindings) → b.at ≡ replicate 32 None → FoundBelow st 0 b
found_none st b e = record {
  long = ap length e ∙ length-replicate {A = Maybe Place} 32 None;
  low = λ i x l d. absurd (omega arith);
  found = λ i x l d. absurd (omega arith);
  stands = λ x p d. absurd (some_is_none (sym d ∙ none_bound b e x));
}

pub same_letter : {x y : ℕ} → letter x ≡ letter y → x ≡ y
same_letter e = cc

letter_or_sign : {x f : ℕ} {ts : Terms} → sign f ts ≡ letter x → ⊥
letter_or_sign e = let z : ◌≡◌ {A = ℕ} 0 1 = cc in omega arith

module _ (st : Store) (n : ℕ) (b : Bindings) (sound : Sound st) (inside : n < st.count) (w : FoundBelow st n b) where
  -- a sign at place n, or a letter
  pub found_sign : (f : ℕ) (ts : Terms) → term_in st n ≡ sign f ts → FoundBelow st (n + 1) b
  found_sign f ts e = record {
    long = w.long;
    low = λ i x l d. ⊎_elim (λ z. absurd (other i x z d)) (λ k. w.low i x k d) (last_or_below i n l);
    found = λ i x l d. ⊎_elim (λ z. absurd (other i x z d)) (λ k. w.found i x k d) (last_or_below i n l);
    stands = λ x p d. let h = w.stands x p d in (omega (arith, h.0), h.1);
  }
    where
      other : (i x : ℕ) → i ≡ n → term_in st i ≡ letter x → ⊥
      other i x z d = letter_or_sign (sym e ∙ ap (λ (j : ℕ). term_in st j) (sym z) ∙ d)

  pub found_letter : (x : ℕ) → x < 32 → term_in st n ≡ letter x →
      FoundBelow st (n + 1) (record { at = set b.at x (Some (record { 0 = n })) })
  found_letter x l e = record {
    long = length-set b.at x (Some (record { 0 = n })) ∙ w.long;
    low = λ i y k d. ⊎_elim (λ z. let s = same i y z d in omega arith) (λ z. w.low i y z d) (last_or_below i n k);
    found = λ i y k d. ⊎_elim
        (λ z. let s = same i y z d in
        ap (λ (j : ℕ). get_or (set b.at x (Some (record { 0 = n }))) j None) s ∙ here ∙ ap (λ (j : ℕ). Some (record { 0 = j })) (sym z))
        (λ z. other y (λ s. apart i y z d s) ∙ w.found i y z d)
        (last_or_below i n k);
    stands = λ y p d. ⊎_elim
        (λ z. let s = same_place (sym here ∙ ap (λ (j : ℕ). get_or (set b.at x (Some (record { 0 = n }))) j None) (sym z) ∙ d) in
        let k : n ≡ p.0 = ap (λ (q : Place). q.0) s in
        (omega arith, ap (λ (j : ℕ). term_in st j) (sym k) ∙ e ∙ ap letter (sym z)))
        (λ z. let h = w.stands y p (sym (other y z) ∙ d) in (omega (arith, h.0), h.1))
        (eq_or y x);
  }
    where
      here : get_or (set b.at x (Some (record { 0 = n }))) x None ≡ Some (record { 0 = n })
      here = get_or-set_same b.at x (Some (record { 0 = n })) None (omega (arith, w.long))

      other : (y : ℕ) → y ≢ x → get_or (set b.at x (Some (record { 0 = n }))) y None ≡ bound b y
      other y z = get_or-set_other b.at x y (Some (record { 0 = n })) None z

      same : (i y : ℕ) → i ≡ n → term_in st i ≡ letter y → y ≡ x
      same i y z d = same_letter (sym d ∙ ap (λ (j : ℕ). term_in st j) z ∙ e)

      apart : (i y : ℕ) → i < n → term_in st i ≡ letter y → y ≡ x → ⊥
      apart i y k d s =
          let z : i ≡ n = one_place st.words.now st.count i n sound.shared (omega arith) inside (d ∙ ap letter s ∙ sym e) in
          omega arith

-- what `all` gives of the letters
pub bound_or_not : (b : Bindings) (r : Bool) → length b.at ≡ 32 → MatchBool r
    (AllWithin (λ o. is_some o ≡ true) b.at 0 (length b.at))
    ((k : ℕ) × (k < length b.at) × HoldsAt (λ o. is_some o ≡ false) b.at k) → AllBound b r
bound_or_not b true long h = λ x l. place_of (bound b x) (h x None (omega arith) (omega arith))
bound_or_not b false long h = (h.0, omega (arith, h.1), none_of (bound b h.0) (h.2 None))

pub all_found : (st : Store) (b : Bindings) → FoundBelow st st.count b → ((x : ℕ) → x < 32 → Bound b x) →
    LettersLow st × LettersBound st b
all_found st b w h = (w.low, λ x l. let k = h x l in let s = w.stands x k.0 k.1 in (k.0, k.1, s.0, s.1))

pub not_all : (st : Store) (b : Bindings) (x : ℕ) → FoundBelow st st.count b → x < 32 → bound b x ≡ None →
    LettersLow st → LettersStand st → ⊥
not_all st b x w l e low h = let k = h x l in some_is_none (sym (w.found k.0 x k.1 k.2) ∙ e)

pub letters_found : (st : Store) (b : Bindings) (r : Bool) → FoundBelow st st.count b → AllBound b r → LettersFound st (then_some r b)
letters_found st b true w h = all_found st b w h
letters_found st b false w h = λ low k. not_all st b h.0 w h.1 h.2 low k

-- what `from_fn` gives at an index, if its closure is left as it was
pub call_at : {F B : Type 0} (g : Mut F (ℕ × Unit {0}) B) (f : F) → ((k : ℕ) (y : B) (p : F) → Called g f (k, tt) y p → p ≡ f) →
    (ys : List B) (i n : ℕ) → IsFromFnResultFrom g f ys i n → (k : ℕ) → i ≤ k → k < i + n →
    (y : B) × (p : F) × IsElementAt ys k y × Called g f (k, tt) y p
call_at g f keeps ys i zero h k low high = absurd (omega arith)
call_at {F} {B} g f keeps ys i (suc n) h k low high = ⊎_elim
    (λ e. subst (λ (j : ℕ). (y : B) × (p : F) × IsElementAt ys j y × Called g f (j, tt) y p) e (h.1, h.0, h.2, h.3))
    (λ l. call_at g f keeps ys (i + 1) n (subst (λ (p : F). IsFromFnResultFrom g p ys (i + 1) n) (keeps i h.1 h.0 h.3) h.4)
    k (omega arith) (omega arith))
    (eq-or-lt_of_le low)
