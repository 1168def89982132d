-- Labels of places: two classes made one by relabelling, and how many classes are left.
use Rattle.std.proofs.Common.{◌≡◌, ℕ, zero, suc, ◌<◌, ◌≤◌, Bool, true, false, cond, eqb, List, length, get_or, sym, refl, ap, ◌∙◌, subst}
use Rattle.std.proofs.Common.{⊎_elim, arith}
use Rattle.std.proofs.Common.{eqb-true}
use borrow.Author.Tests.{eqb-false}
use Rattle.rewriting.specs.Terms.{Term, letter, sign, Terms, put}
use Rattle.store.specs.declared.types.Store.{Store}
use Rattle.store.specs.declared.types.Place.{Place}
use Rattle.store.specs.Stores.{term_in}
use Rattle.store.proofs.Cases.{eq_or}
use Rattle.unification.specs.declared.types.Classes.{Classes}
use Rattle.unification.specs.Classes.{label, IsSign, Labelled, Respects, class_count, Relabelled, Merged}

-- the first n labels of xs are changed, and the rest is as it was
pub record RelabelledBelow (n : ℕ) (xs : List Place) (a b : Place) (ys : List Place) : Type 0 where
  pub long : length ys ≡ 96
  pub moved : (i : ℕ) → i < n → (get_or xs i (record { 0 = 0 })).0 ≡ a.0 → (get_or ys i (record { 0 = 0 })).0 ≡ b.0
  pub kept : (i : ℕ) → i < n → ((get_or xs i (record { 0 = 0 })).0 ≡ a.0 → ⊥) → get_or ys i (record { 0 = 0 }) ≡ get_or xs i
      (record { 0 = 0 })
  pub rest : (i : ℕ) → n ≤ i → get_or ys i (record { 0 = 0 }) ≡ get_or xs i (record { 0 = 0 })

-- how many labels there are, if no place becomes one
bit_le : (x y i : ℕ) → (x ≡ i → y ≡ i) → cond (eqb x i) 1 0 ≤ cond (eqb y i) 1 0
bit_le x y i h = go (eqb x i) (eqb y i) refl refl
  where
    go : (p q : Bool) → eqb x i ≡ p → eqb y i ≡ q → cond p 1 0 ≤ cond q 1 0
    go false q e f = omega arith
    go true true e f = omega arith
    go true false e f = absurd (eqb-false y i f (h (eqb-true x i e)))

bit_lt : (x y i : ℕ) → (x ≡ i → ⊥) → y ≡ i → cond (eqb x i) 1 0 < cond (eqb y i) 1 0
bit_lt x y i n e = go (eqb x i) (eqb y i) refl refl
  where
    go : (p q : Bool) → eqb x i ≡ p → eqb y i ≡ q → cond p 1 0 < cond q 1 0
    go false true d f = omega arith
    go false false d f = absurd (eqb-false y i f e)
    go true q d f = absurd (n (eqb-true x i d))

module _ (c d : Classes) where
  count_le : (n : ℕ) → ((i : ℕ) → i < n → label d i ≡ i → label c i ≡ i) → class_count d n ≤ class_count c n
  count_le zero h = omega arith
  count_le (suc n) h =
      let a = bit_le (label d n) (label c n) n (h n (omega arith)) in
      let b = count_le n (λ i l. h i (omega arith)) in omega arith

  count_lt : (n a : ℕ) → a < n → label c a ≡ a → (label d a ≡ a → ⊥) → ((i : ℕ) → i < n → label d i ≡ i → label c i ≡ i) →
      class_count d n < class_count c n
  count_lt zero a l e m h = absurd (omega arith)
  count_lt (suc n) a l e m h = ⊎_elim
      (λ z. let x = bit_lt (label d n) (label c n) n (subst (λ (i : ℕ). label d i ≡ i → ⊥) z m) (subst (λ (i : ℕ). label c i ≡ i) z e) in
      let y = count_le n (λ i k. h i (omega arith)) in omega arith)
      (λ z. let x = bit_le (label d n) (label c n) n (h n (omega arith)) in
      let y = count_lt n a (omega arith) e m (λ i k. h i (omega arith)) in omega arith)
      (eq_or a n)

-- the class with label x becomes part of the one with label y
module _ (st : Store) (c d : Classes) (x y : ℕ) (few : st.count ≤ 96) (w : Labelled st st.count c) (low_x : x < st.count)
    (low-y : y < st.count) (own_x : label c x ≡ x) (own-y : label c y ≡ y) (up : IsSign (term_in st x) → IsSign (term_in st y))
    (r : Relabelled c x y d) where
  by_move : (P : ℕ → Type 0) (k : ℕ) → k < st.count → (label c k ≡ x → P y) → ((label c k ≡ x → ⊥) → P (label c k)) → P (label d k)
  by_move P k l f g = ⊎_elim
      (λ e. subst P (sym (r.moved k (omega arith) e)) (f e)) (λ n. subst P (sym (r.kept k (omega arith) n)) (g n)) (eq_or (label c k) x)

  own_d : label d y ≡ y
  own_d = by_move (λ z. z ≡ y) y low-y (λ _. refl) (λ _. own-y)

  labelled_then : Labelled st st.count d
  labelled_then = record {
    low = λ k l. by_move (λ z. z < st.count) k l (λ _. low-y) (λ _. w.low k l);
    own = λ k l. by_move (λ z. label d z ≡ z) k l (λ _. own_d)
        (λ n. let b = w.low k l in r.kept (label c k) (omega arith) (λ e. n (sym (w.own k l) ∙ e)) ∙ w.own k l);
    signs = λ k l s. by_move (λ z. IsSign (term_in st z)) k l
        (λ e. up (subst (λ (z : ℕ). IsSign (term_in st z)) e (w.signs k l s))) (λ _. w.signs k l s);
  }

  coarser_then : (k l : ℕ) → k < st.count → l < st.count → label c k ≡ label c l → label d k ≡ label d l
  coarser_then k l a b e = by_move (λ z. z ≡ label d l) k a
      (λ m. sym (r.moved l (omega arith) (sym e ∙ m))) (λ n. e ∙ sym (r.kept l (omega arith) (λ m. n (e ∙ m))))

  respects_then : (s : ℕ → Term) → Respects st st.count c s → put s (term_in st x) ≡ put s (term_in st y) →
      Respects st st.count d s
  respects_then s h e k l = by_move (λ z. put s (term_in st k) ≡ put s (term_in st z)) k l
      (λ m. h k l ∙ ap (λ (z : ℕ). put s (term_in st z)) m ∙ e) (λ _. h k l)

  fewer_then : (x ≡ y → ⊥) → class_count d st.count < class_count c st.count
  fewer_then n = count_lt c d st.count x low_x own_x (λ e. n (sym e ∙ r.moved x (omega arith) own_x))
      (λ k l. by_move (λ z. z ≡ k → label c k ≡ k) k l
      (λ m e. absurd (n (sym m ∙ ap (label c) (sym e) ∙ own-y))) (λ _ e. e))

  merged_then : (i j : ℕ) → i < st.count → j < st.count → label c i ≡ x → label c j ≡ y → Merged st c i j d
  merged_then i j a b ex ey = record {
    labelled = labelled_then;
    one = r.moved i (omega arith) ex ∙ sym (by_move (λ z. z ≡ y) j b (λ _. refl) (λ _. ey));
    coarser = coarser_then;
    respects = λ s h e. respects_then s h (ap (λ (z : ℕ). put s (term_in st z)) (sym ex) ∙ sym (h i a) ∙ e ∙ h j b
        ∙ ap (λ (z : ℕ). put s (term_in st z)) ey);
    fewer = λ n. fewer_then (λ e. n (ex ∙ e ∙ sym ey));
  }

-- i's class becomes part of j's
merged_into : (st : Store) (c d : Classes) (i j : ℕ) → st.count ≤ 96 → Labelled st st.count c → i < st.count → j < st.count →
    (IsSign (term_in st (label c i)) → IsSign (term_in st (label c j))) → Relabelled c (label c i) (label c j) d → Merged st c i j d
merged_into st c d i j few w a b up r = merged_then st c d (label c i) (label c j) few w (w.low i a) (w.low j b) (w.own i a) (w.own j b)
    up r i j a b refl refl

merged_other : {st : Store} {c d : Classes} {i j : ℕ} → Merged st c j i d → Merged st c i j d
merged_other m = record {
  labelled = m.labelled;
  one = sym m.one;
  coarser = m.coarser;
  respects = λ s h e. m.respects s h (sym e);
  fewer = λ n. m.fewer (λ e. n (sym e));
}

-- x's class becomes part of y's if x is a letter, and y's of x's if it is a sign
module _ (st : Store) (c d : Classes) (i j x y : ℕ) (few : st.count ≤ 96) (w : Labelled st st.count c) (a : i < st.count)
    (b : j < st.count) (ex : x ≡ label c i) (ey : y ≡ label c j) where
  pub letter_merged : (v : ℕ) → term_in st x ≡ letter v → Relabelled c x y d → Merged st c i j d
  letter_merged v e r = merged_into st c d i j few w a b
      (λ s. absurd (subst IsSign (ap (λ (z : ℕ). term_in st z) (sym ex) ∙ e) s))
      (subst (λ (z : ℕ). Relabelled c (label c i) z d) ey (subst (λ (z : ℕ). Relabelled c z y d) ex r))

  pub sign_merged : (f : ℕ) (ts : Terms) → term_in st x ≡ sign f ts → Relabelled c y x d → Merged st c i j d
  sign_merged f ts e r = merged_other (merged_into st c d j i few w b a
      (λ _. subst IsSign (sym (ap (λ (z : ℕ). term_in st z) (sym ex) ∙ e)) tt)
      (subst (λ (z : ℕ). Relabelled c (label c j) z d) ex (subst (λ (z : ℕ). Relabelled c z x d) ey r)))
