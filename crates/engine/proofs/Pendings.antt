-- Places that are still to be matched: one more, and the parts of a sign.
use Rattle.std.proofs.Common.{◌≡◌, ℕ, suc, ◌+◌, ◌-◌, ◌<◌, ◌≤◌, List, [], ◌∷◌, ◌++◌, length, get_or, sym, refl, ap, ◌∙◌, subst, arith}
use Rattle.std.proofs.Common.{length-append}
use Rattle.std.proofs.Math.ListN.{get_or-append}
use Rattle.std.proofs.Math.Seq.{get_or-append_seam}
use native.Mathlib.Decide.{dec_lt}
use Rattle.rewriting.specs.Terms.{Terms, none1, and1, glue}
use Rattle.store.specs.declared.types.Store.{Store}
use Rattle.store.specs.declared.types.Place.{Place}
use Rattle.store.specs.Slots.{parts_by}
use Rattle.store.specs.Stores.{term_in, part_in}
use Rattle.engine.specs.Matching.{stacked, PlacesInside, Pushed}

abbrev pub zero_place : Place
zero_place = record { 0 = 0 }

pub one_more : (ps : List Place) (p : Place) → length (ps ++ p ∷ []) ≡ length ps + 1
one_more ps p = length-append ps (p ∷ [])

module _ (st : Store) where
  pub stacked_more : (ps : List Place) (p : Place) → stacked st (ps ++ p ∷ []) ≡ and1 (term_in st p.0) (stacked st ps)
  stacked_more [] p = refl
  stacked_more (q ∷ ps) p = ap (λ (ts : Terms). glue ts (and1 (term_in st q.0) none1)) (stacked_more ps p)

  pub inside_more : (ps : List Place) (p : Place) → PlacesInside st ps → p.0 < st.count → PlacesInside st (ps ++ p ∷ [])
  inside_more ps p old new d l = aux (dec_lt d (length ps))
    where
      aux : Dec (d < length ps) → (get_or (ps ++ p ∷ []) d zero_place).0 < st.count
      aux (yes k) = rw (get_or-append ps (p ∷ []) zero_place d k) (old d k)
      aux (no m) =
          let e : d ≡ length ps = omega (arith, one_more ps p) in
          subst (λ (i : ℕ). (get_or (ps ++ p ∷ []) i zero_place).0 < st.count) (sym e)
          (rw (get_or-append_seam ps p [] zero_place) new)

  -- those that a place stands on
  pub inside_below : (ps qs : List Place) → PlacesInside st (ps ++ qs) → PlacesInside st ps
  inside_below ps qs h d l = rw (← get_or-append ps qs zero_place d l) (h d (omega (arith, length-append ps qs)))

  pub inside_last : (ps : List Place) (p : Place) → PlacesInside st (ps ++ p ∷ []) → p.0 < st.count
  inside_last ps p h = rw (← get_or-append_seam ps p [] zero_place) (h (length ps) (omega (arith, one_more ps p)))

  parts_from : (i k n : ℕ) → 0 < k → k ≤ n →
      parts_by (λ j. term_in st j) (λ m. part_in st i m) (k - 1) (n - (k - 1))
      ≡ and1 (term_in st (part_in st i (k - 1))) (parts_by (λ j. term_in st j) (λ m. part_in st i m) k (n - k))
  parts_from i k n l h =
      let e : n - (k - 1) ≡ suc (n - k) = omega arith in
      let d : k - 1 + 1 ≡ k = omega arith in
      ap (parts_by (λ j. term_in st j) (λ m. part_in st i m) (k - 1)) e
      ∙ ap (λ (m : ℕ). and1 (term_in st (part_in st i (k - 1))) (parts_by (λ j. term_in st j) (λ m. part_in st i m) m (n - k))) d

  -- the part k in front of those behind it
  pub pushed_more : (q r s : List Place) (us : Terms) (p : Place) → Pushed st q us r → s ≡ r ++ p ∷ [] → p.0 < st.count →
      Pushed st q (and1 (term_in st p.0) us) s
  pushed_more q r s us p h o i = subst (Pushed st q (and1 (term_in st p.0) us)) (sym o) (record {
    len = omega (arith, h.len, one_more r p);
    terms = stacked_more r p ∙ ap (and1 (term_in st p.0)) h.terms;
    inside = inside_more r p h.inside i;
  })

  pub parts_more : (q r s : List Place) (i k n : ℕ) (p : Place) → 0 < k → k ≤ n → p.0 ≡ part_in st i (k - 1) → p.0 < st.count →
      s ≡ r ++ p ∷ [] → Pushed st q (parts_by (λ j. term_in st j) (λ m. part_in st i m) k (n - k)) r →
      Pushed st q (parts_by (λ j. term_in st j) (λ m. part_in st i m) (k - 1) (n - (k - 1))) s
  parts_more q r s i k n p l h e c o t =
      let us = parts_by (λ j. term_in st j) (λ m. part_in st i m) k (n - k) in
      subst (λ (ts : Terms). Pushed st q ts s)
      (ap (λ (j : ℕ). and1 (term_in st j) us) e ∙ sym (parts_from i k n l h))
      (pushed_more q r s us p t o c)
