-- Letters in a store, and bindings of them.
use Rattle.std.proofs.Common.{◌≡◌, ℕ, ◌+◌, ◌<◌, ◌-◌, ◌≢◌, List, ◌++◌, length, drop, get_or, set, replicate, Some, None, Option as Maybe}
use Rattle.std.proofs.Common.{sym, ap, ◌∙◌}
use Rattle.std.proofs.Common.{subst, ⊎_elim, arith, length-set, get_or-drop, get_or-set_other, get_or-set_same}
use lib.ListN.{get_or-replicate}
use Rattle.std.proofs.lemmas.List.{get_or_append_left, get_or-append_right, get_or_past}
use Rattle.rewriting.specs.Terms.{Term, letter, put, In}
use Rattle.rewriting.specs.Rules.{Part, renamed}
use Rattle.rewriting.specs.Overlaps.{fill}
use Rattle.rewriting.proofs.Replacing.{put_agree, put_letter, put_put, put_fill, fill_agree}
use Rattle.store.specs.declared.types.Store.{Store}
use Rattle.store.specs.declared.types.Place.{Place}
use Rattle.store.specs.Stores.{Grown, term_in}
use Rattle.store.specs.Making.{LetterShared}
use Rattle.store.proofs.Cases.{le_or_lt, last_or_below, eq_or}
use Rattle.store.proofs.Placing.{grown_then}
use Rattle.engine.specs.declared.types.Bindings.{Bindings}
use Rattle.engine.specs.Matching.{bound, put_in, AllInside, Bound}
use Rattle.engine.proofs.Builts.{put_in_bound}
use Rattle.unification.specs.Unifiers.{LettersBound}
use Rattle.unification.proofs.Lettering.{same_letter}
use Rattle.overlaps.specs.Pairs.{LettersMade, Shifted, HoleBound, AllGiven}

-- only letters that have a place in the array are bound
pub bound_within : (b : Bindings) (x : ℕ) → Bound b x → x < length b.at
bound_within b x (p, e) = ⊎_elim (λ h. absurd (some_none (sym e ∙ get_or_past b.at x None h))) (λ h. h) (le_or_lt (length b.at) x)
  where
    some_none : Some p ≡ None → ⊥
    some_none d = let z : ◌≡◌ {A = ℕ} 0 1 = cc in omega arith

-- the places of the renamed letters, and nothing behind them
pub shifted_by : (b : Bindings) (xs : List (Maybe Place)) → length b.at ≡ 32 → length xs ≡ 16 → xs ≡ drop 16 b.at →
    Shifted b (record { at = xs ++ replicate 16 None })
shifted_by b xs l n e = record {
  low = λ x h. get_or_append_left xs (replicate 16 None) None x (omega (arith, n))
      ∙ (ap (λ (v : List (Maybe Place)). get_or v x None) e ∙ (get_or-drop 16 b.at x None
      ∙ ap (λ (i : ℕ). get_or b.at i None) (omega arith)));
  none = λ x h. get_or-append_right xs (replicate 16 None) 16 x None n h ∙ ⊎_elim
      (λ k. get_or_past (replicate 16 None) (x - 16) None k) (λ k. get_or-replicate 16 (x - 16) None None k) (le_or_lt 16 (x - 16));
}

-- one letter more in the store
pub one_letter : {a st su : Store} {n : ℕ} {b c : Bindings} {p : Place} → n < 32 → c.at ≡ set b.at n (Some p) →
    LettersMade n a st b → LetterShared st n su p → LettersMade (n + 1) a su c
one_letter {a} {st} {su} {n} {b} {c} {p} l e m s = record {
  sound = s.sound;
  grown = grown_then a st su m.grown s.grown;
  few = omega (arith, m.few, s.few);
  full = ap length e ∙ (length-set b.at n (Some p) ∙ m.full);
  low = λ i x h t. ⊎_elim
      (λ z. let q : i ≡ p.0 = s.new i z h in
      let d : n ≡ x = same_letter (sym (ap (λ (j : ℕ). term_in su j) q ∙ s.term) ∙ t) in omega arith)
      (λ z. let d : x < n = m.low i x z (sym (s.grown.terms i z) ∙ t) in omega arith)
      (le_or_lt st.count i);
  letters = λ x h. ⊎_elim (λ z. subst Held (sym z) held_here) (λ z. held_before x z) (last_or_below x n (omega arith));
}
  where
    Held : ℕ → Type 0
    Held x = (q : Place) × (bound c x ≡ Some q) × (q.0 < su.count) × (term_in su q.0 ≡ letter x)

    held_here : (q : Place) × (bound c n ≡ Some q) × (q.0 < su.count) × (term_in su q.0 ≡ letter n)
    held_here = (
      p,
      ap (λ (v : List (Maybe Place)). get_or v n None) e ∙ get_or-set_same b.at n (Some p) None (omega (arith, m.full)),
      s.inside,
      s.term,
    )

    held_before : (x : ℕ) → x < n → (q : Place) × (bound c x ≡ Some q) × (q.0 < su.count) × (term_in su q.0 ≡ letter x)
    held_before x z =
        let (q, d, i, t) = m.letters x z in
        let ne : x ≢ n = omega arith in (
          q,
          ap (λ (v : List (Maybe Place)). get_or v x None) e ∙ (get_or-set_other b.at n x (Some p) None ne ∙ d),
          omega (arith, s.grown.longer),
          s.grown.terms q.0 i ∙ t,
        )

-- a place that is bound
same_place : {x : Maybe Place} {p q : Place} → x ≡ Some p → x ≡ Some q → p ≡ q
same_place e d = cc

none_some : {x : Maybe Place} {q : Place} → x ≡ None → x ≡ Some q → ⊥
none_some e d = let z : ◌≡◌ {A = ℕ} 0 1 = cc in omega arith

pub grown_inside : (st su : Store) (b : Bindings) → Grown st su → AllInside st b → AllInside su b
grown_inside st su b g h x q e = let l = h x q e in omega (arith, g.longer)

-- the letters themselves
pub letters_inside : (st su : Store) (b : Bindings) → LettersMade 32 st su b → AllInside su b
letters_inside st su b m x q e =
    let (p, d, l, t) = m.letters x (omega (arith, bound_within b x (q, e), m.full)) in
    let z = ap (λ (r : Place). r.0) (same_place d e) in
    omega arith

pub letters_grown : (st su : Store) (b : Bindings) → Grown st su → LettersBound st b → LettersBound su b
letters_grown st su b g h x l =
    let (p, e, i, t) = h x l in (p, e, omega (arith, g.longer), g.terms p.0 i ∙ t)

pub letters_put : (st : Store) (b : Bindings) (t : Term) → LettersBound st b → ((x : ℕ) → In x t → x < 32) → put (put_in st b) t ≡ t
letters_put st b t h k = put_agree (put_in st b) letter t
    (λ x i. let (p, e, l, d) = h x (k x i) in put_in_bound st b x p e ∙ d) ∙ put_letter t

-- renamed letters
module _ (b c : Bindings) (sh : Shifted b c) where
  pub shifted_inside : (st : Store) → AllInside st b → AllInside st c
  shifted_inside st h x q e = ⊎_elim
      (λ l. absurd (none_some (sh.none x l) e))
      (λ l. h (x + 16) q (sym (sh.low x l) ∙ e))
      (le_or_lt 16 x)

  pub shifted_bound : ((x : ℕ) → x < 32 → Bound b x) → (x : ℕ) → x < 16 → Bound c x
  shifted_bound h x l = let (p, e) = h (x + 16) (omega arith) in (p, sh.low x l ∙ e)

  pub renamed_put : (st : Store) (t : Term) → LettersBound st b → ((x : ℕ) → In x t → x < 16) → put (put_in st c) t ≡ renamed t
  renamed_put st t h k = put_agree (put_in st c) (λ x. letter (x + 16)) t
      (λ x i. let l = k x i in let (p, e, j, d) = h (x + 16) (omega arith) in put_in_bound st c x p (sh.low x l ∙ e) ∙ d)

  pub shifted_put : (st su : Store) (t : Term) → Grown st su → AllGiven st b → ((x : ℕ) → In x t → x < 16) →
      put (put_in su c) t ≡ put (put_in st b) (renamed t)
  shifted_put st su t g a k = put_agree (put_in su c) (λ x. put_in st b (x + 16)) t
      (λ x i. let l = k x i in let (p, e) = a.all (x + 16) (omega arith) in
      put_in_bound su c x p (sh.low x l ∙ e) ∙ (g.terms p.0 (a.inside (x + 16) p e) ∙ sym (put_in_bound st b (x + 16) p e)))
      ∙ sym (put_put (put_in st b) (λ x. letter (x + 16)) t)

-- a hole
module _ (b : Bindings) (p : Place) (c : Bindings) (hb : HoleBound b p c) where
  pub hole_inside : (st : Store) → p.0 < st.count → AllInside st b → AllInside st c
  hole_inside st l h x q e = ⊎_elim
      (λ z. let d = ap (λ (r : Place). r.0) (same_place hb.here (ap (bound c) (sym z) ∙ e)) in omega arith)
      (λ n. h x q (sym (hb.others x n) ∙ e))
      (eq_or x 16)

  pub hole_bound : ((x : ℕ) → x < 32 → Bound b x) → (x : ℕ) → x < 17 → Bound c x
  hole_bound h x l = ⊎_elim
      (λ z. (p, ap (bound c) z ∙ hb.here))
      (λ n. let (q, e) = h x (omega arith) in (q, hb.others x n ∙ e))
      (eq_or x 16)

  pub hole_put : (st su : Store) {v t : Term} (place : Part v t) → Grown st su → AllGiven st b → ((x : ℕ) → In x t → x < 16) →
      put (put_in su c) (fill place letter (letter 16)) ≡ fill place (put_in st b) (term_in su p.0)
  hole_put st su {t = t} place g a k =
      put_fill place (put_in su c) letter (letter 16)
      ∙ (fill_agree place (put_in su c) (put_in st b) (put_in su c 16) agree
      ∙ ap (fill place (put_in st b)) (put_in_bound su c 16 p hb.here))
    where
      agree : (x : ℕ) → In x t → put_in su c x ≡ put_in st b x
      agree x i =
          let l = k x i in let (q, e) = a.all x (omega arith) in let n : x ≢ 16 = omega arith in
          put_in_bound su c x q (hb.others x n ∙ e) ∙ (g.terms q.0 (a.inside x q e) ∙ sym (put_in_bound st b x q e))
