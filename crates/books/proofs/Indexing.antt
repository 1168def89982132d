-- The index of rules, from the last rule to the first; and that it is by the signs of the book's rules.
use Rattle.std.proofs.Common.{◌≡◌, ℕ, ◌+◌, ◌<◌, ◌≤◌, ◌≢◌, List, length, get_or, set, replicate, Some, None, Option as Maybe, sym, ap, ◌∙◌}
use Rattle.std.proofs.Common.{refl, arith, subst, drop, ◌++◌, get_or-set_other, get_or-set_same, get_or-drop}
use native.Mathlib.Decide.{ℕ_discrete}
use lib.ListN.{get_or-replicate}
use Rattle.rewriting.specs.Terms.{Term, letter, sign}
use Rattle.books.specs.Rows.{row}
use Rattle.books.specs.Reading.{TermAt}
use Rattle.books.specs.declared.index.Index.{Index}
use Rattle.books.specs.Indexing.{FirstFrom, IndexedFrom, Indexed, top_number}

-- no rules
pub index_none : (t : ℕ → ℕ) (n : ℕ) (N : List (Maybe ℕ)) → IndexedFrom t n n (replicate 32 None) N
index_none t n N = record {
  first = λ f l. rw (get_or-replicate {A = Maybe ℕ} 32 f None None l) (λ j a b. absurd (omega arith));
  next = λ i a b. absurd (omega arith);
}

module _ (t : ℕ → ℕ) (n m : ℕ) where
  past : (f : ℕ) → t m ≢ f → (j : ℕ) → t j ≡ f → m ≤ j → Dec (j ≡ m) → m + 1 ≤ j
  past f ne j e a (yes d) = absurd (ne (ap t (sym d) ∙ e))
  past f ne j e a (no d) = omega arith

  -- the first from a number on is the first from the one before on, where that has another sign
  one_before : (f : ℕ) (o : Maybe ℕ) → t m ≢ f → FirstFrom t n (m + 1) f o → FirstFrom t n m f o
  one_before f None ne h = λ j a b e. h j (past f ne j e a (ℕ_discrete j m)) b e
  one_before f (Some i) ne h = (omega (arith, h.0), h.1, h.2, λ j a b e. h.3 j (past f ne j e a (ℕ_discrete j m)) b e)

  module _ (F N : List (Maybe ℕ)) (x : IndexedFrom t n (m + 1) F N) where
    -- a rule with a sign: it is the first with it, and the one that was is next
    pub index_more : t m < 32 → m < n → length F ≡ 32 → m < length N →
        IndexedFrom t n m (set F (t m) (Some m)) (set N m (get_or F (t m) None))
    index_more low here wide many = record {
      first = λ f l. firsts f l (ℕ_discrete f (t m));
      next = λ i a b l. nexts i a b l (ℕ_discrete i m);
    }
      where
        firsts : (f : ℕ) → f < 32 → Dec (f ≡ t m) → FirstFrom t n m f (get_or (set F (t m) (Some m)) f None)
        firsts f l (yes d) = rw (d, get_or-set_same F (t m) (Some m) None (omega arith)) (omega arith, here, refl, λ j a b e. omega arith)
        firsts f l (no d) = rw (get_or-set_other F (t m) f (Some m) None d)
            (one_before f (get_or F f None) (λ e. d (sym e)) (x.first f l))

        nexts : (i : ℕ) → m ≤ i → i < n → t i < 32 → Dec (i ≡ m) →
            FirstFrom t n (i + 1) (t i) (get_or (set N m (get_or F (t m) None)) i None)
        nexts i a b l (yes d) = rw (d, get_or-set_same N m (get_or F (t m) None) None many) (x.first (t m) low)
        nexts i a b l (no d) = rw (get_or-set_other N m i (get_or F (t m) None) None d) (x.next i (omega arith) b l)

-- the number behind the tag of a term that stands in the words is that of its first symbol
pub top_at : (ws : List ℕ) (a z : ℕ) (t : Term) → TermAt ws a z t → get_or ws (a + 1) 0 ≡ top_number t
top_at ws a z t w = sym (get_or-drop a ws 1 0) ∙ ap (λ (vs : List ℕ). get_or vs 1 0) w.written ∙ second t
  where
    second : (u : Term) → get_or (row u ++ drop z ws) 1 0 ≡ top_number u
    second (letter x) = refl
    second (sign f ts) = refl

-- an index of numbers is one of the same numbers
module _ (t u : ℕ → ℕ) (n : ℕ) (same : (i : ℕ) → i < n → t i ≡ u i) where
  first_same : (a f : ℕ) (o : Maybe ℕ) → FirstFrom t n a f o → FirstFrom u n a f o
  first_same a f None h = λ j l b e. h j l b (same j b ∙ e)
  first_same a f (Some i) h =
      (h.0, h.1, sym (same i h.1) ∙ h.2, λ j l b e. h.3 j l b (same j (omega (arith, h.1)) ∙ e))

  pub indexed_same : (x : Index) → Indexed t n x → Indexed u n x
  indexed_same x h = record {
    first = λ f l. first_same 0 f (get_or x.first f None) (h.first f l);
    next = λ i a b l.
        let e = same i b in
        subst (λ (f : ℕ). FirstFrom u n (i + 1) f (get_or x.next i None)) e
        (first_same (i + 1) (t i) (get_or x.next i None) (h.next i a b (omega (arith, e))));
  }
