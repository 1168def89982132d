-- Images built: one image more, none yet, and classes that wait for each other.
use Rattle.std.proofs.Common.{◌≡◌, ℕ, zero, suc, ◌+◌, ◌<◌, ◌≤◌, Bool, true, false, ◌≢◌, List, [], ◌∷◌, length, get_or, set, replicate}
use Rattle.std.proofs.Common.{is_some}
use Rattle.std.proofs.Common.{Some, None, Option as Maybe, sym, refl, ap, ◌∙◌, subst, ⊎_elim, arith, length-set, get_or-set_other}
use Rattle.std.proofs.Common.{get_or-set_same, below_more}
use Rattle.std.proofs.lemmas.List.FromFn.{length-range_with_len, get_or-range_with_len}
use Rattle.std.specs.Prelude.{MatchBool}
use Rattle.std.specs.List.{AllWithin, HoldsAt, range_with_len}
use lib.ListN.{length-replicate, get_or-replicate}
use Rattle.rewriting.specs.Terms.{Term, letter, sign, Terms, put, puts, size, sizes}
use Rattle.store.specs.declared.types.Store.{Store}
use Rattle.store.specs.declared.types.Place.{Place}
use Rattle.store.specs.Stores.{Sound, Grown, term_in, arity_in, part_in, parts_in}
use Rattle.store.specs.Making.{terms_at, PartsInside, SignShared}
use Rattle.store.proofs.Cases.{eq_or}
use Rattle.store.proofs.Placing.{grown_same, grown_then}
use Rattle.unification.specs.declared.types.Classes.{Classes}
use Rattle.unification.specs.declared.types.Images.{Images}
use Rattle.unification.specs.Classes.{label, Labelled, Respects, IsSign, Each}
use Rattle.unification.specs.Images.{image, nones, unbuilt, ImageOf, MadeImage, Building, Builds, Waits, PartWanting}
use Rattle.unification.specs.Images.{BuiltOrWaits, BuiltAt, RoundBuilt, Complete}
use Rattle.unification.proofs.Parts.{each_map, each_parts, puts_parts, part_size}

abbrev zero_place : Place
zero_place = record { 0 = 0 }

pub some_is_none : {p : Place} → ◌≡◌ {A = Maybe Place} (Some p) None → ⊥
some_is_none e = let z : ◌≡◌ {A = ℕ} 0 1 = cc in omega arith

pub same_place : {p q : Place} → ◌≡◌ {A = Maybe Place} (Some p) (Some q) → p ≡ q
same_place e = cc

-- a place that is there, or none
pub place_of : (o : Maybe Place) → is_some o ≡ true → (q : Place) × (o ≡ Some q)
place_of None e = absurd (cc)
place_of (Some q) e = (q, refl)

pub none_of : (o : Maybe Place) → is_some o ≡ false → o ≡ None
none_of None e = refl
none_of (Some q) e = absurd (cc)

pub image_none : {o : Maybe Place} (a : Maybe Place) (b : Bool) → a ≡ o → b ≡ is_some a → b ≡ false → o ≡ None
image_none a b e f g = sym e ∙ none_of a (sym f ∙ g)

-- what `all` gives of the first n places
pub complete_or_not : (c : Classes) (m : Images) (n : ℕ) (r : Bool) → MatchBool r
    (AllWithin (λ i. is_some (image m (label c i)) ≡ true) (range_with_len 0 n) 0 (length (range_with_len 0 n)))
    ((k : ℕ) × (k < length (range_with_len 0 n)) × HoldsAt (λ i. is_some (image m (label c i)) ≡ false) (range_with_len 0 n) k) →
    Complete c m n r
complete_or_not c m n true h = λ i l.
    let e : get_or (range_with_len 0 n) i 0 ≡ i = omega (arith, get_or-range_with_len 0 n i 0 l) in
    place_of (image m (label c i)) (subst (λ (j : ℕ). is_some (image m (label c j)) ≡ true) e
    (h i 0 (omega arith) (omega (arith, length-range_with_len 0 n))))
complete_or_not c m n false h =
    let l : h.0 < n = omega (arith, length-range_with_len 0 n, h.1) in
    let e : get_or (range_with_len 0 n) h.0 0 ≡ h.0 = omega (arith, get_or-range_with_len 0 n h.0 0 l) in (
      h.0,
      record {
        low = l;
        wanting = none_of (image m (label c h.0)) (subst (λ (j : ℕ). is_some (image m (label c j)) ≡ false) e (h.2 0));
      },
    )

-- one image more, one fewer wanting
pub nones_set : (xs : List (Maybe Place)) (i : ℕ) (q : Place) → i < length xs → get_or xs i None ≡ None →
    nones (set xs i (Some q)) + 1 ≡ nones xs
nones_set [] i q l e = absurd (omega arith)
nones_set (None ∷ xs) zero q l e = omega arith
nones_set (Some p ∷ xs) zero q l e = absurd (some_is_none e)
nones_set (None ∷ xs) (suc i) q l e = let h = nones_set xs i q (omega arith) e in omega arith
nones_set (Some p ∷ xs) (suc i) q l e = nones_set xs i q (omega arith) e

pub nones_some : (xs : List (Maybe Place)) (i : ℕ) → i < length xs → get_or xs i None ≡ None → 0 < nones xs
nones_some xs i l e = let h = nones_set xs i zero_place l e in omega arith

-- the store has grown
module _ (st su : Store) (n : ℕ) (c : Classes) (grown : Grown st su) (within : n ≤ st.count) (w : Labelled st n c) where
  pub labelled_grown : Labelled su n c
  labelled_grown = record {
    low = w.low;
    own = w.own;
    signs = λ i l s. let k = w.low i l in
        subst IsSign (sym (grown.terms (label c i) (omega arith))) (w.signs i l (subst IsSign (grown.terms i (omega arith)) s));
  }

  pub respects_old : (r : ℕ → Term) → Respects su n c r → Respects st n c r
  respects_old r h i l = let k = w.low i l in
      ap (put r) (sym (grown.terms i (omega arith))) ∙ h i l ∙ ap (put r) (grown.terms (label c i) (omega arith))

  pub respects_new : (r : ℕ → Term) → Respects st n c r → Respects su n c r
  respects_new r h i l = let k = w.low i l in
      ap (put r) (grown.terms i (omega arith)) ∙ h i l ∙ ap (put r) (sym (grown.terms (label c i) (omega arith)))

-- an image for class p, which had none
module _ (st su : Store) (n : ℕ) (c : Classes) (m k : Images) (p q : Place) (b : Building st n c m) (grown : Grown st su)
    (low : p.0 < n) (wanting : image m p.0 ≡ None) (is : k.at ≡ set m.at p.0 (Some q)) where
  image_here : image k p.0 ≡ Some q
  image_here = ap (λ (xs : List (Maybe Place)). get_or xs p.0 None) is
      ∙ get_or-set_same m.at p.0 (Some q) None (omega (arith, b.few, b.full))

  image_other : (i : ℕ) → i ≢ p.0 → image k i ≡ image m i
  image_other i d = ap (λ (xs : List (Maybe Place)). get_or xs i None) is ∙ get_or-set_other m.at p.0 i (Some q) None d

  pub image_kept : (i : ℕ) (a : Place) → image m i ≡ Some a → image k i ≡ Some a
  image_kept i a e = ⊎_elim
      (λ z. absurd (some_is_none (sym e ∙ ap (image m) z ∙ wanting))) (λ d. image_other i d ∙ e) (eq_or i p.0)

  pub one_fewer : unbuilt k + 1 ≡ unbuilt m
  one_fewer = ap (λ (xs : List (Maybe Place)). nones xs + 1) is ∙ nones_set m.at p.0 q (omega (arith, b.few, b.full)) wanting

  image_of_kept : (t u : Term) → ImageOf st n c m t u → ImageOf su n c k t u
  image_of_kept t u x =
      let l = (b.made (label c x.i) x.q (b.labelled.low x.i x.low) x.built).inside in
      let h = b.within in
      let d = x.low in
      record {
        i = x.i;
        q = x.q;
        low = d;
        is = grown.terms x.i (omega arith) ∙ x.is;
        built = image_kept (label c x.i) x.q x.built;
        term = grown.terms x.q.0 l ∙ x.term;
      }

  made_kept : (i : ℕ) (a : Place) → i < n → MadeImage st n c m i a → MadeImage su n c k i a
  made_kept i a l x =
      let h = b.within in
      let g = grown.longer in
      let d = x.inside in
      record {
        inside = omega arith;
        parts = λ f ts e. let y = x.parts f ts (sym (grown.terms i (omega arith)) ∙ e) in
            (y.0, grown.terms a.0 d ∙ y.1, each_map (ImageOf st n c m) (ImageOf su n c k) image_of_kept ts y.0 y.2);
        respects = λ r o. ap (put r) (grown.terms a.0 d)
            ∙ x.respects r (respects_old st su n c grown h b.labelled r o) ∙ ap (put r) (sym (grown.terms i (omega arith)));
      }

  pub built_one : Sound su → su.count ≤ st.count + 1 → MadeImage su n c k p.0 q → Builds st m n c su k
  built_one s few x = record {
    building = record {
      sound = s;
      within = omega (arith, b.within, grown.longer);
      few = b.few;
      full = ap length is ∙ length-set m.at p.0 (Some q) ∙ b.full;
      labelled = labelled_grown st su n c grown b.within b.labelled;
      space = omega (arith, b.space, one_fewer, grown.limit);
      made = λ i a l e. ⊎_elim
          (λ z. let y : q ≡ a = same_place (sym image_here ∙ ap (image k) (sym z) ∙ e) in
          subst (λ (j : ℕ). MadeImage su n c k j a) (sym z) (subst (MadeImage su n c k p.0) y x))
          (λ d. made_kept i a l (b.made i a l (sym (image_other i d) ∙ e)))
          (eq_or i p.0);
    };
    grown = grown;
    few = omega (arith, one_fewer);
  }

-- a letter is its own image
pub letter_image : (st : Store) (n : ℕ) (c : Classes) (k : Images) (p : Place) (x : ℕ) → p.0 < st.count → term_in st p.0 ≡ letter x →
    MadeImage st n c k p.0 p
letter_image st n c k p x l e = record {
  inside = l;
  parts = λ f ts d. absurd (not_both f ts (sym e ∙ d));
  respects = λ r h. refl;
}
  where
    not_both : (f : ℕ) (ts : Terms) → letter x ≡ sign f ts → ⊥
    not_both f ts z = let y : ◌≡◌ {A = ℕ} 0 1 = cc in omega arith

-- a sign with images of its parts
module _ (st : Store) (n : ℕ) (c : Classes) (m : Images) (p : Place) (b : Building st n c m) (low : p.0 < n) (f a : ℕ)
    (arity : arity_in st p.0 ≡ a) (term : term_in st p.0 ≡ sign f (parts_in st p.0 a)) where
  part_low : (j : ℕ) → j < a → part_in st p.0 j < n
  part_low j l = let h = b.within in
      let d = b.sound.shared.shape.below p.0 j (omega arith) (omega arith) in omega arith

  -- a part without image
  pub waits_for : (j : ℕ) → PartWanting st c m p.0 a j → Waits st n c m p.0
  waits_for j x =
      let l = part_low j x.low in
      record {
        j = label c (part_in st p.0 j);
        low = b.labelled.low _ l;
        own = b.labelled.own _ l;
        wanting = x.wanting;
        smaller = λ r h.
            let d : size (put r (term_in st p.0)) ≡ 1 + sizes (puts r (parts_in st p.0 a)) = ap (λ (t : Term). size (put r t)) term in
            let e : size (put r (term_in st (part_in st p.0 j))) ≡ size (put r (term_in st (label c (part_in st p.0 j)))) =
            ap size (h (part_in st p.0 j) l) in
            let g = part_size (λ z. term_in st z) (λ z. part_in st p.0 z) r 0 a j (omega arith) (omega (arith, x.low)) in
            omega arith;
      }

  module _ (ps : List Place) (have : (j : ℕ) → j < a → image m (label c (part_in st p.0 j)) ≡ Some (get_or ps j zero_place)) where
    pub parts_inside : PartsInside st ps a
    parts_inside j l =
        (b.made (label c (part_in st p.0 j)) (get_or ps j zero_place) (b.labelled.low _ (part_low j l)) (have j l)).inside

    pub sign_image : (su : Store) (k : Images) (q : Place) → SignShared st f ps a su q → image m p.0 ≡ None →
        k.at ≡ set m.at p.0 (Some q) → MadeImage su n c k p.0 q
    sign_image su k q x wanting is =
        let h = b.within in
        let here : term_in su p.0 ≡ sign f (parts_in st p.0 a) = x.grown.terms p.0 (omega arith) ∙ term in
        record {
          inside = x.inside;
          parts = λ g ts e.
              let z : sign f (parts_in st p.0 a) ≡ sign g ts = sym here ∙ e in
              let u : f ≡ g = cc in
              let v : parts_in st p.0 a ≡ ts = cc in (
                terms_at st ps a,
                x.term ∙ ap (λ (y : ℕ). sign y (terms_at st ps a)) u,
                subst (λ (us : Terms). Each (ImageOf su n c k) us (terms_at st ps a)) v
                    (each_parts (λ y. term_in st y) (λ y. term_in st y) (λ j. part_in st p.0 j) (λ j. (get_or ps j zero_place).0)
                    (ImageOf su n c k) 0 a
                    (λ j s t. let l = part_low j (omega arith) in
                    record {
                      i = part_in st p.0 j;
                      q = get_or ps j zero_place;
                      low = l;
                      is = x.grown.terms (part_in st p.0 j) (omega arith);
                      built = image_kept st su n c m k p q b x.grown low wanting is (label c (part_in st p.0 j))
                          (get_or ps j zero_place)
                          (have j (omega arith));
                      term = x.grown.terms (get_or ps j zero_place).0 (parts_inside j (omega arith));
                    })),
              );
          respects = λ r o.
              let d = respects_old st su n c x.grown h b.labelled r o in
              ap (put r) x.term
              ∙ ap (sign f) (puts_parts (λ y. term_in st y) (λ y. term_in st y) (λ j. (get_or ps j zero_place).0)
              (λ j. part_in st p.0 j) r 0 a
              (λ j s t. (b.made (label c (part_in st p.0 j)) (get_or ps j zero_place) (b.labelled.low _ (part_low j (omega arith)))
              (have j (omega arith))).respects r d ∙ sym (d (part_in st p.0 j) (part_low j (omega arith)))))
              ∙ ap (put r) (sym here);
        }

-- nothing was built
pub builds_none : (st : Store) (n : ℕ) (c : Classes) (m : Images) → Building st n c m → Builds st m n c st m
builds_none st n c m b = record { building = b; grown = grown_same st; few = omega arith }

pub builds_then : (st su sv : Store) (n : ℕ) (c : Classes) (m k l : Images) → Builds st m n c su k → Builds su k n c sv l →
    Builds st m n c sv l
builds_then st su sv n c m k l a b = record {
  building = b.building;
  grown = grown_then st su sv a.grown b.grown;
  few = omega (arith, a.few, b.few);
}

-- one place more: an image was built there, or not
module _ (s0 st su : Store) (n : ℕ) (c : Classes) (m0 m k : Images) (i : ℕ) (b : Builds s0 m0 n c st m) where
  pub round_built : (r g : Bool) → r ≡ true → g ≡ true → BuiltAt st m n c i su k r → RoundBuilt m0 n c (i + 1) su k g
  round_built r g e d h =
      let l = b.few in
      let w = b.grown.longer in
      let x : unbuilt k < unbuilt m = subst (BuiltAt st m n c i su k) e h in
      let y : unbuilt k < unbuilt m0 = omega arith in
      subst (RoundBuilt m0 n c (i + 1) su k) (sym d) y

  pub round_same : (r f g : Bool) → r ≡ false → g ≡ f → RoundBuilt m0 n c i st m f → BuiltAt st m n c i su k r →
      RoundBuilt m0 n c (i + 1) su k g
  round_same r f g e d h x = subst (RoundBuilt m0 n c (i + 1) su k) (sym d) (go f h (subst (BuiltAt st m n c i su k) e x))
    where
      go : (f : Bool) → RoundBuilt m0 n c i st m f → BuiltAt st m n c i su k false → RoundBuilt m0 n c (i + 1) su k f
      go true h x = let z : unbuilt k ≡ unbuilt m = ap (λ (a : Images). unbuilt a) x.1 in omega arith
      go false h x = below_more (λ j. BuiltOrWaits su n c k j) i
          (λ j l. subst (λ (a : Images). BuiltOrWaits su n c a j) (sym x.1)
          (subst (λ (a : Store). BuiltOrWaits a n c m j) (sym x.0) (h j l))) x.2

-- no images yet
pub no_image : (m : Images) → m.at ≡ replicate 96 None → (i : ℕ) → i < 96 → image m i ≡ None
no_image m e i l = ap (λ (xs : List (Maybe Place)). get_or xs i None) e ∙ get_or-replicate 96 i None None l

pub building_first : (st : Store) (c : Classes) (m : Images) → Sound st → st.count ≤ 96 → st.count + 96 ≤ st.limit →
    Labelled st st.count c → m.at ≡ replicate 96 None → Building st st.count c m
building_first st c m s few space w e = record {
  sound = s;
  within = omega arith;
  few = few;
  full = ap length e ∙ length-replicate {A = Maybe Place} 96 None;
  labelled = w;
  space = let z : unbuilt m ≡ 96 = ap nones e in omega arith;
  made = λ i q l d. absurd (some_is_none (sym d ∙ no_image m e i (omega arith)));
}

-- classes that wait for each other: the sizes of what becomes of them would fall for ever
pub stuck : (st : Store) (n : ℕ) (c : Classes) (m : Images) → ((i : ℕ) → i < n → BuiltOrWaits st n c m i) → (r : ℕ → Term) →
    Respects st n c r → (s i : ℕ) → size (put r (term_in st i)) < s → i < n → label c i ≡ i → image m i ≡ None → ⊥
stuck st n c m h r o zero i a l e d = absurd (omega arith)
stuck st n c m h r o (suc s) i a l e d =
    let w = h i l e d in stuck st n c m h r o s w.j (omega (arith, w.smaller r o)) w.low w.own w.wanting
