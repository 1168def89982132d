-- Words that are a term; ways in a row: what a loop over the rules keeps, and why it stops.
use Rattle.std.proofs.Common.{◌≡◌, ℕ, ◌+◌, ◌-◌, ◌<◌, ◌≤◌, Bool, eqb, Option as Maybe, ◌↔◌, List, [], ◌∷◌, ◌++◌, length, get_or, drop, Some}
use Rattle.std.proofs.Common.{None, sym, refl}
use Rattle.std.proofs.Common.{ap, ◌∙◌, ap₂, append-nil, add-one, arith, length-drop, drop-cons, eqb-true}
use Rattle.std.proofs.Common.{false}
use Rattle.std.specs.Option.{MatchOption}
use borrow.Author.Tests.{eqb-false, clash}
use lib.Seq.{drop-length}
use Rattle.rewriting.specs.Answers.{Tells}
use Rattle.rewriting.specs.Terms.{Term, Terms, none1, and1, count, Ok, AllOver, AnyLetter}
use Rattle.books.specs.Rows.{row, rows, rowTerms, rowWays, Of, AllFit, WaysRow, SomeWays}
use Rattle.books.specs.Reading.{TermsAt, TermsEnd, TermAt, TermEnd}
use Rattle.books.specs.Layouts.{listed}
use Rattle.books.specs.declared.words.Letters.TheVariants.{Small, Any}
use Rattle.books.proofs.Sided.{terms, terms_listed, count_terms, rows_terms}
use Rattle.books.proofs.Unique.{rows_once, over_any}

-- words that are a term, or none
module _ (ps ws : List ℕ) where
  at_end : (z : ℕ) (t u : Term) → Ok ps t → TermAt ws 0 z t → Of ps ws u → z ≡ length ws
  at_end z t u o at w =
      let q = (rows_once Small ps (and1 t none1) (and1 u none1) (drop z ws) [] (o, tt) (w.fits, tt) refl
      (simp append-nil (sym at.written ∙ sym w.written))).1 in
      omega (arith, ap length q, length-drop z ws, at.within)

  pub whole_words : (o : Maybe ℕ) (b : Bool) → TermEnd Small ps ws 0 o → MatchOption o (b ≡ false) (λ z. b ≡ eqb z (length ws)) →
      Tells b ((t : Term) × Of ps ws t)
  whole_words (Some z) b p q = rw q (record {
    holds = λ e. (
      p.0,
      record {
        written = sym (append-nil (row p.0)) ∙ (ap (λ (v : List ℕ). row p.0 ++ v) (sym (drop-length ws))
            ∙ (ap (λ (k : ℕ). row p.0 ++ drop k ws) (sym (eqb-true z (length ws) e)) ∙ sym p.2.written));
        fits = p.1;
      },
    );
    fails = λ e q. eqb-false z (length ws) e (at_end z p.0 q.0 p.1 p.2 q.1);
  })
  whole_words None b h q = rw q (record {
    holds = λ e. absurd (clash e);
    fails = λ e p. h p.0 [] p.1.fits (append-nil (row p.0) ∙ p.1.written);
  })

length_listed : (ts : Terms) → length (listed ts) ≡ count ts
length_listed ts = sym (count_terms (listed ts)) ∙ ap count (terms_listed ts)

rows_listed : (ts : Terms) → rowTerms (listed ts) ≡ rows ts
rows_listed ts = sym (rows_terms (listed ts)) ∙ ap rows (terms_listed ts)

all_fit : (ps : List ℕ) (ts : Terms) → AllOver AnyLetter ps ts → AllFit ps (listed ts)
all_fit ps none1 o = tt
all_fit ps (and1 t ts) o = (o.0, all_fit ps ts o.1)

module _ (ps h : List ℕ) (a : ℕ) where
  next_word : a < length h → drop a h ≡ get_or h a 0 ∷ drop (a + 1) h
  next_word l = drop-cons h a 0 l ∙ ap (λ (k : ℕ). get_or h a 0 ∷ drop k h) (sym (add-one a))

  module _ (room : a < length h) where
    -- what a first way is
    first_way : (w : List Term) (ws : List (List Term)) → rowWays (w ∷ ws) ≡ drop a h →
        (length w ≡ get_or h a 0) × (rowTerms w ++ rowWays ws ≡ drop (a + 1) h)
    first_way w ws e = let d : rowWays (w ∷ ws) ≡ get_or h a 0 ∷ drop (a + 1) h = e ∙ next_word room in (cc, cc)

    -- one way read
    others_left : (z n : ℕ) → TermsAt Any ps (get_or h a 0) h (a + 1) z → (ws : List (List Term)) → WaysRow ps n (drop a h) ws → 0 < n →
        SomeWays ps (n - 1) (drop z h)
    others_left z n at [] r l = absurd (omega (arith, r.each))
    others_left z n at (w ∷ ws) r l =
        let f = first_way w ws r.written in
        let o = r.fit in
        let q = rows_once Any ps (terms w) at.terms (rowWays ws) (drop z h) (over_any ps w o.0) at.over
        (count_terms w ∙ (f.0 ∙ sym at.counted))
        (ap (λ (v : List ℕ). v ++ rowWays ws) (rows_terms w) ∙ (f.1 ∙ at.written)) in
        (ws, record { written = q.1; each = omega (arith, r.each); fit = o.1 })

    one_more : (z n : ℕ) (at : TermsAt Any ps (get_or h a 0) h (a + 1) z) (ws : List (List Term)) →
        WaysRow ps (n - 1) (drop z h) ws → 0 < n → WaysRow ps n (drop a h) (listed at.terms ∷ ws)
    one_more z n at ws r l = record {
      written = ap₂ (λ (k : ℕ) (v : List ℕ). k ∷ v) (length_listed at.terms ∙ at.counted)
          (ap₂ ◌++◌ (rows_listed at.terms) r.written ∙ sym at.written) ∙ sym (next_word room);
      each = omega (arith, r.each);
      fit = (all_fit ps at.terms at.over, r.fit);
    }

    pub way_read : (z n : ℕ) → 0 < n → TermsAt Any ps (get_or h a 0) h (a + 1) z →
        SomeWays ps n (drop a h) ↔ SomeWays ps (n - 1) (drop z h)
    way_read z n l at = (λ p. others_left z n at p.0 p.1 l, λ p. (listed at.terms ∷ p.0, one_more z n at p.0 p.1 l))

    -- no way there
    no_first : (n : ℕ) → 0 < n → TermsEnd Any ps (get_or h a 0) h (a + 1) None → (ws : List (List Term)) → WaysRow ps n (drop a h) ws → ⊥
    no_first n l none_there [] r = omega (arith, r.each)
    no_first n l none_there (w ∷ ws) r =
        let f = first_way w ws r.written in
        let o = r.fit in
        none_there (omega arith) (terms w) (rowWays ws) (count_terms w ∙ f.0) (over_any ps w o.0)
        (ap (λ (v : List ℕ). v ++ rowWays ws) (rows_terms w) ∙ f.1)

    pub no_way : (n : ℕ) → 0 < n → TermsEnd Any ps (get_or h a 0) h (a + 1) None → SomeWays ps n (drop a h) → ⊥
    no_way n l none_there p = no_first n l none_there p.0 p.1

  -- no words there
  no_words_first : (n : ℕ) → 0 < n → length h ≤ a → (ws : List (List Term)) → WaysRow ps n (drop a h) ws → ⊥
  no_words_first n l k [] r = omega (arith, r.each)
  no_words_first n l k (w ∷ ws) r = omega (arith, ap length r.written, length-drop a h)

  pub no_words : (n : ℕ) → 0 < n → length h ≤ a → SomeWays ps n (drop a h) → ⊥
  no_words n l k p = no_words_first n l k p.0 p.1

  -- the end
  none_left : (ws : List (List Term)) → WaysRow ps 0 (drop a h) ws → length (drop a h) ≡ 0
  none_left [] r = ap length (sym r.written)
  none_left (w ∷ ws) r = absurd (omega (arith, r.each))

  pub ways_end : a ≤ length h → SomeWays ps 0 (drop a h) → a ≡ length h
  ways_end k p = omega (arith, none_left p.0 p.1, length-drop a h)

  pub ways_all : a ≡ length h → SomeWays ps 0 (drop a h)
  ways_all e = ([], record { written = sym (ap (λ (k : ℕ). drop k h) e ∙ drop-length h); each = refl; fit = tt })

-- no end where there are no ways
pub none_read : (ps : List ℕ) (n : ℕ) (h : List ℕ) (o : Maybe ℕ) → o ≡ None → (SomeWays ps n h → ⊥) →
    (o ≡ Some (length h)) ↔ SomeWays ps n h
none_read ps n h (Some z) e f = let z : ◌≡◌ {A = ℕ} 0 1 = cc in absurd (omega arith)
none_read ps n h None e f = (λ q. let z : ◌≡◌ {A = ℕ} 0 1 = cc in absurd (omega arith), λ p. absurd (f p))
