-- Flags and notes that are right stay so: when the store grows, when one more is set, and in a collection.
use Rattle.std.proofs.Common.{◌≡◌, ℕ, ◌-◌, ◌<◌, ◌≤◌, true, false, List, sym, ap, ◌∙◌, subst, arith}
use native.Mathlib.Decide.{ℕ_discrete, dec_lt}
use Rattle.rewriting.specs.Terms.{Term}
use Rattle.rewriting.specs.Rules.{Eq, Steps, Done}
use Rattle.store.specs.declared.types.Store.{Store}
use Rattle.store.specs.Stores.{Sound, term_in, flag_in, note_in, FlagSet, NoteSet, Grown, Origin, new, old, Carried}
use Rattle.engine.specs.Running.{Honest, Holding}

module _ (rs : List Eq) where
  -- what the note w of a term means
  abbrev Noted : Store → Term → ℕ → Type 0
  Noted st t w = (w ≤ st.count) × Steps rs t (term_in st (w - 1)) × Done rs (term_in st (w - 1))

  pub noted : (st : Store) → Honest rs st → (i : ℕ) → i < st.count → 0 < note_in st i → Noted st (term_in st i) (note_in st i)
  noted st h i l m = (h.inside i l m, h.steps i l m, h.done i l m)

  pub honest_by : (st : Store) → ((i : ℕ) → i < st.count → flag_in st i ≡ true → Done rs (term_in st i)) →
      ((i : ℕ) → i < st.count → 0 < note_in st i → Noted st (term_in st i) (note_in st i)) → Honest rs st
  honest_by st f n = record {
    flags = f;
    inside = λ i l m. (n i l m).0;
    steps = λ i l m. (n i l m).1;
    done = λ i l m. (n i l m).2;
  }

  -- with the terms that there were
  module _ (a b : Store) (longer : a.count ≤ b.count) (terms : (i : ℕ) → i < a.count → term_in b i ≡ term_in a i) where
    pub noted_kept : (t : Term) (w : ℕ) → 0 < w → Noted a t w → Noted b t w
    noted_kept t w p n =
        let e = terms (w - 1) (omega (arith, n.0)) in
        (omega (arith, n.0, longer), subst (Steps rs t) (sym e) n.1, subst (Done rs) (sym e) n.2)

    -- a slot with the note that it had
    pub noted_same : (i v w : ℕ) → i < a.count → v ≡ w → 0 < v → Noted a (term_in a i) w → Noted b (term_in b i) v
    noted_same i v w l e p n =
        let p1 : 0 < w = omega arith in
        subst (λ (x : ℕ). Noted b (term_in b i) x) (sym e)
        (subst (λ (t : Term). Noted b t w) (sym (terms i l)) (noted_kept (term_in a i) w p1 n))

  -- grown
  pub honest_grown : (a b : Store) → Honest rs a → Grown a b → Honest rs b
  honest_grown a b h g = honest_by b (λ i l f. flag i l f (dec_lt i a.count)) (λ i l m. note i l m (dec_lt i a.count))
    where
      flag : (i : ℕ) → i < b.count → flag_in b i ≡ true → Dec (i < a.count) → Done rs (term_in b i)
      flag i l f (yes k) = subst (Done rs) (sym (g.terms i k)) (h.flags i k (sym (g.flags i k) ∙ f))
      flag i l f (no k) =
          let z : true ≡ false = sym f ∙ g.new_flags i (omega arith) l in
          let y : ◌≡◌ {A = ℕ} 0 1 = cc in
          absurd (omega arith)

      note : (i : ℕ) → i < b.count → 0 < note_in b i → Dec (i < a.count) → Noted b (term_in b i) (note_in b i)
      note i l m (yes k) =
          noted_same a b g.longer g.terms i (note_in b i) (note_in a i) k (g.notes i k) m
          (noted a h i k (omega (arith, g.notes i k)))
      note i l m (no k) = absurd (omega (arith, g.new_notes i (omega arith) l))

  pub holding_grown : (a b : Store) → Honest rs a → Sound b → Grown a b → Holding rs a b
  holding_grown a b h s g =
      record { sound = s; honest = honest_grown a b h g; room = g.room; longer = g.longer; terms = g.terms }

  -- the flag of a normal form set
  pub holding_flag : (a b : Store) (i : ℕ) → Honest rs a → Done rs (term_in a i) → i < a.count → FlagSet a i b → Holding rs a b
  holding_flag a b i h d low s = record {
    sound = s.sound;
    honest = honest_by b (λ j l f. flag j (omega (arith, s.same.count)) f (ℕ_discrete j i))
        (λ j l m. note j (omega (arith, s.same.count)) m);
    room = s.same.room;
    longer = longer;
    terms = s.same.terms;
  }
    where
      longer : a.count ≤ b.count
      longer = omega (arith, s.same.count)

      flag : (j : ℕ) → j < a.count → flag_in b j ≡ true → Dec (j ≡ i) → Done rs (term_in b j)
      flag j l f (yes e) = subst (Done rs) (sym (s.same.terms j l)) (subst (λ (k : ℕ). Done rs (term_in a k)) (sym e) d)
      flag j l f (no n) = subst (Done rs) (sym (s.same.terms j l)) (h.flags j l (sym (s.flags j l n) ∙ f))

      note : (j : ℕ) → j < a.count → 0 < note_in b j → Noted b (term_in b j) (note_in b j)
      note j l m =
          noted_same a b longer s.same.terms j (note_in b j) (note_in a j) l (s.notes j l) m
          (noted a h j l (omega (arith, s.notes j l)))

  -- a note set, of the place of a normal form
  pub holding_note : (a b : Store) (i w : ℕ) → Honest rs a → i < a.count → 0 < w → Noted a (term_in a i) w → NoteSet a i w b →
      Holding rs a b
  holding_note a b i w h low pos n s = record {
    sound = s.sound;
    honest = honest_by b (λ j l f. flag j (omega (arith, s.same.count)) f)
        (λ j l m. note j (omega (arith, s.same.count)) m (ℕ_discrete j i));
    room = s.same.room;
    longer = longer;
    terms = s.same.terms;
  }
    where
      longer : a.count ≤ b.count
      longer = omega (arith, s.same.count)

      flag : (j : ℕ) → j < a.count → flag_in b j ≡ true → Done rs (term_in b j)
      flag j l f = subst (Done rs) (sym (s.same.terms j l)) (h.flags j l (sym (s.flags j l) ∙ f))

      note : (j : ℕ) → j < a.count → 0 < note_in b j → Dec (j ≡ i) → Noted b (term_in b j) (note_in b j)
      note j l m (yes e) =
          noted_same a b longer s.same.terms j (note_in b j) w l (ap (λ (k : ℕ). note_in b k) e ∙ s.note) m
          (subst (λ (k : ℕ). Noted a (term_in a k) w) (sym e) n)
      note j l m (no x) =
          noted_same a b longer s.same.terms j (note_in b j) (note_in a j) l (s.notes j l x) m
          (noted a h j l (omega (arith, s.notes j l x)))

  -- a collection
  pub honest_carried : (a b : Store) → Honest rs a → Carried a b → Honest rs b
  honest_carried a b h c = honest_by b (λ m l f. flag m f (c m l)) (λ m l p. note m p (c m l))
    where
      flag : (m : ℕ) → flag_in b m ≡ true → Origin a b m → Done rs (term_in b m)
      flag m f (new e n) = let z : true ≡ false = sym f ∙ e in let y : ◌≡◌ {A = ℕ} 0 1 = cc in absurd (omega arith)
      flag m f (old i l t e n) = subst (Done rs) (sym t) (h.flags i l (sym e ∙ f))

      note : (m : ℕ) → 0 < note_in b m → Origin a b m → Noted b (term_in b m) (note_in b m)
      note m p (new e n) = absurd (omega arith)
      note m p (old i l t e n) =
          let (pos, kept) = n p in
          let (low, same) = kept (h.inside i l pos) in (
            low,
            subst (λ (u : Term). Steps rs u (term_in b (note_in b m - 1))) (sym t)
                (subst (Steps rs (term_in a i)) (sym same) (h.steps i l pos)),
            subst (Done rs) (sym same) (h.done i l pos),
          )

  -- one after another
  pub holding_on : (a b c : Store) → Holding rs a b → Holding rs b c → Holding rs a c
  holding_on a b c h k = record {
    sound = k.sound;
    honest = k.honest;
    room = k.room ∙ h.room;
    longer = omega (arith, h.longer, k.longer);
    terms = λ i l. k.terms i (omega (arith, h.longer)) ∙ h.terms i l;
  }
