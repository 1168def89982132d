-- The images of letters' classes are the least replacement that makes two terms one; or nothing does.
use Rattle.std.proofs.Common.{◌≡◌, ℕ, suc, ◌<◌, ◌≤◌, Some, None, Option as Maybe, sym, refl, ap, ◌∙◌, subst}
use Rattle.std.proofs.Common.{ap₂, ⊎_elim, arith}
use Rattle.std.proofs.lemmas.List.{get_or_past}
use Rattle.rewriting.specs.Terms.{Term, letter, sign, Terms, none1, and1, put, puts, size}
use Rattle.store.specs.declared.types.Store.{Store}
use Rattle.store.specs.declared.types.Place.{Place}
use Rattle.store.specs.Stores.{term_in}
use Rattle.store.proofs.Cases.{le_or_lt}
use Rattle.store.proofs.Telling.{one_place}
use Rattle.engine.specs.declared.types.Bindings.{Bindings}
use Rattle.engine.specs.Matching.{bound, term_or, put_in, AllInside}
use Rattle.unification.specs.declared.types.Classes.{Classes}
use Rattle.unification.specs.declared.types.Images.{Images}
use Rattle.unification.specs.Unifiers.{Ready, Unifier}
use Rattle.unification.specs.Classes.{label, Respects, Each, SameClass, Closure}
use Rattle.unification.specs.Images.{image, ImageOf, Builds, BuiltOrWaits, HasImage, Wanting, LetterImages}
use Rattle.unification.proofs.Built.{same_place, respects_new, some_is_none, stuck}

module _ (st su : Store) (p q : Place) (c : Classes) (m0 m : Images) (w : Closure st p q c) (b : Builds st m0 st.count c su m) where
  made_one : (r : ℕ → Term) → put r (term_in st p.0) ≡ put r (term_in st q.0) → Respects su st.count c r
  made_one r e = respects_new st su st.count c b.grown (omega arith) w.labelled r (w.respects r e)

  -- a class without image, and each waits for another
  pub never_one : ((i : ℕ) → i < st.count → BuiltOrWaits su st.count c m i) → (i : ℕ) → Wanting c m st.count i →
      (r : ℕ → Term) → put r (term_in st p.0) ≡ put r (term_in st q.0) → ⊥
  never_one h i x r e = stuck su st.count c m h r (made_one r e) (suc (size (put r (term_in su (label c i))))) (label c i)
      (omega arith) (w.labelled.low i x.low) (w.labelled.own i x.low) x.wanting

  -- all classes have images
  module _ (ls u : Bindings) (ready : Ready st ls) (full : (i : ℕ) → i < st.count → HasImage c m i) (v : LetterImages ls c m u) where
    abbrev s : ℕ → Term
    s = put_in su u

    mutual
      one_term : (t : Term) (i : ℕ) (a : Place) → i < st.count → term_in st i ≡ t → image m (label c i) ≡ Some a →
          put s t ≡ term_in su a.0
      one_term (letter x) i a l e k =
          let low = ready.low i x l e in
          let h = ready.letters x low in
          let z : h.0.0 ≡ i = one_place st.words.now st.count h.0.0 i ready.sound.shared h.2 l (h.3 ∙ sym e) in
          ap (term_or su x) (v.is x h.0 low h.1 ∙ ap (λ (j : ℕ). image m (label c j)) z ∙ k)
      one_term (sign f ts) i a l e k =
          let lab = w.labelled.low i l in
          let y = w.closed i l f ts e in
          let z = (b.building.made (label c i) a lab k).parts f y.0 (b.grown.terms (label c i) lab ∙ y.1) in
          ap (sign f) (one_terms ts y.0 z.0 y.2 z.2) ∙ sym z.1

      one_terms : (ts us vs : Terms) → Each (SameClass st st.count c) ts us → Each (ImageOf su st.count c m) us vs → puts s ts ≡ vs
      one_terms none1 none1 none1 x y = refl
      one_terms none1 none1 (and1 v vs) x y = absurd y
      one_terms none1 (and1 u us) vs x y = absurd x
      one_terms (and1 t ts) none1 vs x y = absurd x
      one_terms (and1 t ts) (and1 u us) none1 x y = absurd y
      one_terms (and1 t ts) (and1 u us) (and1 v vs) (x, xs) (y, ys) =
          let z : x.j ≡ y.i = one_place st.words.now st.count x.j y.i ready.sound.shared x.low_j y.low
          (x.is_j ∙ sym y.is ∙ b.grown.terms y.i y.low) in
          ap₂ and1 (one_term t x.i y.q x.low_i x.is_i
          (ap (image m) x.one ∙ ap (λ (j : ℕ). image m (label c j)) z ∙ y.built) ∙ y.term) (one_terms ts us vs xs ys)

    image_at : (i : ℕ) (a : Place) → i < st.count → image m (label c i) ≡ Some a → a.0 < su.count
    image_at i a l e = (b.building.made (label c i) a (w.labelled.low i l) e).inside

    -- what is bound to letter x
    bound_to : (x : ℕ) → x < 32 → (i : ℕ) × (a : Place) × (i < st.count) × (term_in st i ≡ letter x) × (image m (label c i) ≡ Some a)
        × (bound u x ≡ Some a)
    bound_to x low =
        let h = ready.letters x low in
        let k = full h.0.0 h.2 in
        (h.0.0, k.0, h.2, h.3, k.1, v.is x h.0 low h.1 ∙ k.1)

    past : (x : ℕ) → 32 ≤ x → bound u x ≡ None
    past x l = get_or_past u.at x None (omega (arith, v.long))

    all_inside : AllInside su u
    all_inside x a e = ⊎_elim
        (λ l. absurd (some_is_none (sym e ∙ past x l)))
        (λ l. let h = bound_to x l in
        let z : h.1 ≡ a = same_place (sym h.5 ∙ e) in
        subst (λ (y : Place). y.0 < su.count) z (image_at h.0 h.1 h.2 h.4))
        (le_or_lt 32 x)

    most : (r : ℕ → Term) → put r (term_in st p.0) ≡ put r (term_in st q.0) → (x : ℕ) → r x ≡ put r (s x)
    most r e x = ⊎_elim
        (λ l. ap (λ (o : Maybe Place). put r (term_or su x o)) (sym (past x l)))
        (λ l. let h = bound_to x l in
        let lab = w.labelled.low h.0 h.2 in
        let o = made_one r e in
        ap (put r) (sym h.3 ∙ sym (b.grown.terms h.0 h.2))
        ∙ o h.0 h.2
        ∙ sym ((b.building.made (label c h.0) h.1 lab h.4).respects r o)
        ∙ ap (λ (a : Maybe Place). put r (term_or su x a)) (sym h.5))
        (le_or_lt 32 x)

    pub unifier_is : p.0 < st.count → q.0 < st.count → Unifier su u (term_in st p.0) (term_in st q.0)
    unifier_is lp lq =
        let k = full p.0 lp in
        record {
          all = λ x l. let h = bound_to x l in (h.1, h.5);
          inside = all_inside;
          one = one_term (term_in st p.0) p.0 k.0 lp refl k.1
              ∙ sym (one_term (term_in st q.0) q.0 k.0 lq refl (ap (image m) (sym w.together) ∙ k.1));
          most = most;
        }
