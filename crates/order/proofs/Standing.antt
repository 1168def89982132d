-- Terms that stand in words: where their parts stand and where they end.
use Rattle.std.proofs.Common.{◌≡◌, ℕ, zero, suc, ◌+◌, ◌-◌, ◌*◌, ◌≤◌, List, [], ◌∷◌, ◌++◌, length, get_or, take, drop, Some, None, sym, refl}
use Rattle.std.proofs.Common.{ap, ◌∙◌, subst, append_assoc, arith, length-append, length-drop}
use Rattle.std.proofs.lemmas.List.{get_or-drop, drop-drop, drop_at, take_at}
use Rattle.rewriting.specs.Terms.{Term, letter, sign, Terms, none1, and1, count, size}
use Rattle.rewriting.specs.Order.{rank}
use Rattle.rewriting.proofs.Glueing.{size_some}
use Rattle.books.specs.Rows.{row, rows}
use Rattle.books.specs.Reading.{SymbolAt, TermEnd}
use Rattle.books.specs.declared.words.Letters.TheVariants.{Small}
use Rattle.books.specs.declared.words.Symbol.TheVariants.{Letter, Sign}
use Rattle.books.proofs.Elements.{nth_is}
use Rattle.books.proofs.Glueing.{row_length}
use Rattle.books.proofs.Unique.{row_once}
use Rattle.order.specs.declared.terms.Parts.{Parts}
use Rattle.order.specs.Comparing.{Stands, Stand, Split, Splits, SplitsByWords}

pub rank_getD : (rs : List ℕ) (f : ℕ) → rank rs f ≡ get_or rs f 0
rank_getD [] f = refl
rank_getD (r ∷ rs) zero = refl
rank_getD (r ∷ rs) (suc f) = rank_getD rs f

module _ (ps ws : List ℕ) (k : ℕ) where
  stands_room : (t : Term) → Stands ps ws k t → k + 2 * size t ≤ length ws
  stands_room t s = omega (arith, ap length s.written, length-drop k ws, length-append (row t) s.rest, row_length t, size_some t)

  -- the symbol that a term starts with
  word : (t : Term) (s : Stands ps ws k t) → get_or ws k 0 ≡ get_or (row t ++ s.rest) 0 0
  word t s =
      let z : k ≡ k + 0 = omega arith in
      ap (λ (i : ℕ). get_or ws i 0) z ∙ (sym (get_or-drop k ws 0 0) ∙ ap (λ (v : List ℕ). get_or v 0 0) s.written)

  word2 : (t : Term) (s : Stands ps ws k t) → get_or ws (k + 1) 0 ≡ get_or (row t ++ s.rest) 1 0
  word2 t s = sym (get_or-drop k ws 1 0) ∙ ap (λ (v : List ℕ). get_or v 1 0) s.written

  pub no_symbol : SymbolAt ws k None → (t : Term) → Stands ps ws k t → ⊥
  no_symbol h (letter x) s = omega (arith, word (letter x) s, h (omega (arith, stands_room (letter x) s)))
  no_symbol h (sign f ts) s = omega (arith, word (sign f ts) s, h (omega (arith, stands_room (sign f ts) s)))

  pub letter_stands : (x : ℕ) → SymbolAt ws k (Some (Letter x)) → (t : Term) → Stands ps ws k t → (y : ℕ) × (t ≡ letter y)
  letter_stands x h (letter y) s = (y, refl)
  letter_stands x h (sign f ts) s = absurd (omega (arith, word (sign f ts) s, h.1))

  parts_stand : (f n : ℕ) (ts : Terms) → n ≡ get_or ps f 0 → Stands ps ws k (sign f ts) → Stand ps ws record { count = n; start = k + 2 } ts
  parts_stand f n ts e s = record {
    counted = sym (e ∙ nth_is ps f (count ts) 0 s.over.0);
    over = s.over.1;
    rest = s.rest;
    written = sym (drop-drop 2 k ws) ∙ ap (drop 2) s.written;
  }

  pub sign_stands : (f n : ℕ) → SymbolAt ws k (Some (Sign f)) → n ≡ get_or ps f 0 → (t : Term) → Stands ps ws k t →
      (ts : Terms) × (t ≡ sign f ts) × Stand ps ws record { count = n; start = k + 2 } ts
  sign_stands f n h e (letter y) s = absurd (omega (arith, word (letter y) s, h.1))
  sign_stands f n h e (sign g ts) s =
      let d : g ≡ f = sym (word2 (sign g ts) s) ∙ h.2 in
      (ts, ap (λ (i : ℕ). sign i ts) d, parts_stand f n ts e (subst (λ (i : ℕ). Stands ps ws k (sign i ts)) d s))

  -- where it ends
  module _ (z : ℕ) (end : TermEnd Small ps ws k (Some z)) (t : Term) (s : Stands ps ws k t) where
    is_read : end.0 ≡ t
    is_read = row_once ps end.0 t (drop z ws) s.rest end.1 s.over (sym end.2.written ∙ s.written)

    pub end_of : z ≡ k + 2 * size t
    end_of = end.2.long ∙ ap (λ (v : Term). k + 2 * size v) is_read

    -- its words
    pub words_of : take (z - k) (drop k ws) ≡ row t
    words_of =
        let n : length (row t) ≡ z - k = omega (arith, row_length t, end_of) in
        ap (take (z - k)) s.written ∙ take_at (row t) s.rest (z - k) n

module _ (ps ws : List ℕ) (p : Parts) where
  -- there are no terms
  pub splits_none : p.count ≡ 0 → Splits ps ws p None
  splits_none e none1 s = refl
  splits_none e (and1 t ts) s = absurd (omega (arith, s.counted))

  first_stands : (t : Term) (ts : Terms) → Stand ps ws p (and1 t ts) → Stands ps ws p.start t
  first_stands t ts s = record {
    over = s.over.0;
    rest = rows ts ++ s.rest;
    written = s.written ∙ append_assoc (row t) (rows ts) s.rest;
  }

  pub splits_no_term : TermEnd Small ps ws p.start None → Splits ps ws p None
  splits_no_term h none1 s = refl
  splits_no_term h (and1 t ts) s = let f = first_stands t ts s in absurd (h t f.rest f.over (sym f.written))

  -- the first and the others
  module _ (q : Parts) (less : p.count ≡ q.count + 1) (end : TermEnd Small ps ws p.start (Some q.start)) where
    others_stand : (t : Term) (ts : Terms) → Stand ps ws p (and1 t ts) → Stand ps ws q ts
    unfolding first_stands
    others_stand t ts s = record {
      counted = omega (arith, s.counted);
      over = s.over.1;
      rest = s.rest;
      written =
          ap (λ (i : ℕ). drop i ws) there ∙ (sym (drop-drop (2 * size t) p.start ws)
          ∙ (ap (drop (2 * size t)) (first_stands t ts s).written ∙ drop_at (row t) (rows ts ++ s.rest) (2 * size t) (row_length t)));
    }
      where
        there : q.start ≡ p.start + 2 * size t
        there = end_of ps ws p.start q.start end t (first_stands t ts s)

    splits : (ts : Terms) → Stand ps ws p ts → Split ps ws p q ts
    splits none1 s = absurd (omega (arith, s.counted))
    splits (and1 t ts) s = record {
      first = t;
      others = ts;
      both = refl;
      there = first_stands t ts s;
      behind = others_stand t ts s;
    }

    pub splits_some : Splits ps ws p (Some q)
    splits_some = (omega (arith, end.2.long, size_some end.0), end.2.within, splits)

    -- and the words of the first
    pub splits_by_words : SplitsByWords ps ws p (Some q)
    splits_by_words = (splits_some, words_of ps ws p.start q.start end)
