-- Sides, one after the other: what a loop over them keeps, and why it stops.
use Rattle.std.proofs.Common.{◌≡◌, ℕ, zero, suc, ◌+◌, ◌-◌, ◌<◌, ◌≤◌, ◌≢◌, ◌⊎◌, List, ◌∷◌, ◌++◌, length, get_or, drop, set, replicate, None}
use Rattle.std.proofs.Common.{sym, refl, ap, ◌∙◌, get_or-drop, ⊎_elim}
use Rattle.std.proofs.Common.{subst, inl, inr, append_assoc, append-nil, arith, length-drop, get_or-set_other, get_or-set_same}
use Rattle.std.proofs.Common.{Bool, true, false, eqb, eqb-true}
use Rattle.std.proofs.lemmas.List.{set-append_left, get_or-append_right, get_or-replicate, get_or_past}
use Rattle.std.proofs.lemmas.Bool.{cases_lt}
use lib.ListN.{length-replicate}
use Rattle.std.specs.Bool.{then_some}
use borrow.Author.Tests.{eqb-false}
use mathlib.Core.Option.{some}
use Rattle.rewriting.specs.Terms.{nth, Term, Terms, none1, and1, glue, count, size, Over, AllOver, SmallLetter}
use Rattle.rewriting.proofs.Glueing.{count_glue}
use Rattle.books.specs.Rows.{row, rows}
use Rattle.books.specs.Reading.{first, others, TermAt, TermEnd}
use Rattle.books.specs.Layouts.{listed, Short, SidesAt, SidesRead}
use Rattle.books.specs.declared.words.Letters.TheVariants.{Small}
use Rattle.books.proofs.Glueing.{glue_split, count_first, count_others, rows_glue, over_glue, over_first, over_others}
use Rattle.rewriting.proofs.Choosing.{no_some}
use Rattle.books.proofs.Unique.{rows_once}

short_glue : (ts us : Terms) → Short ts → Short us → Short (glue ts us)
short_glue none1 us h k = k
short_glue (and1 t ts) us h k = (h.0, short_glue ts us h.1 k)

pub short_others : (n : ℕ) (ts : Terms) → Short ts → Short (others n ts)
short_others zero ts h = h
short_others (suc n) none1 h = tt
short_others (suc n) (and1 t ts) h = short_others n ts h.1

-- an element of terms with one more
nth_last : (ts : Terms) (t u : Term) (i : ℕ) → nth (listed (glue ts (and1 t none1))) i ≡ some u →
    ((i < count ts) × (nth (listed ts) i ≡ some u)) ⊎ ((i ≡ count ts) × (t ≡ u))
nth_last none1 t u zero e = inr (refl, cc)
nth_last none1 t u (suc i) e = absurd (no_some e)
nth_last (and1 v ts) t u zero e = inl (omega arith, e)
nth_last (and1 v ts) t u (suc i) e = elim (nth_last ts t u i e)
    [ inl p ↦ inl (omega (arith, p.0), p.1) | inr p ↦ inr (omega (arith, p.0), p.1) ]

-- what is written in a list that stands behind one element and in front of others
pub set_behind : (x : ℕ) (xs ys : List ℕ) (i e : ℕ) → i < length xs → set (x ∷ (xs ++ ys)) (i + 1) e ≡ x ∷ (set xs i e ++ ys)
set_behind x xs ys i e h = let d : i + 1 ≡ suc i = omega arith in rw d (ap (λ (zs : List ℕ). x ∷ zs) (set-append_left xs ys i e h))

-- behind one element and others stands what is left of zeros
pub zeros_behind : (x : ℕ) (xs : List ℕ) (n k i : ℕ) → length xs < i → get_or {A = ℕ} (x ∷ (xs ++ drop k (replicate n 0))) i 0 ≡ 0
zeros_behind x xs n k zero h = absurd (omega arith)
zeros_behind x xs n k (suc i) h =
    let zs : List ℕ = replicate n 0 in
    let j : ℕ = k + (i - length xs) in
    get_or-append_right xs (drop k zs) (length xs) i 0 refl (omega arith) ∙ (get_or-drop k zs (i - length xs) 0 ∙ ⊎_elim
    (get_or-replicate n j 0 0) (λ l. get_or_past zs j 0 (omega (arith, length-replicate {A = ℕ} n 0))) (cases_lt j n))

module _ (ps ws : List ℕ) where
  pub sides_none : (a : ℕ) (starts : List ℕ) → a ≤ length ws → get_or starts 0 0 ≡ a → SidesAt ps ws 0 a a starts
  sides_none a starts h e = record {
    terms = none1;
    counted = refl;
    over = tt;
    short = tt;
    written = refl;
    each = λ i t k. absurd (no_some k);
    last = e;
    within = h;
  }

  module _ (n a z e : ℕ) (starts : List ℕ) (s : SidesAt ps ws n a z starts) (room : n + 1 < length starts) where
    pub sides_more : (t : Term) → Over SmallLetter ps t → TermAt ws z e t → e ≤ z + 64 →
        SidesAt ps ws (n + 1) a e (set starts (n + 1) e)
    sides_more t o at short = record {
      terms = glue s.terms (and1 t none1);
      counted = omega (arith, count_glue s.terms (and1 t none1), s.counted);
      over = over_glue SmallLetter ps s.terms (and1 t none1) s.over (o, tt);
      short = short_glue s.terms (and1 t none1) s.short (omega (arith, at.long), tt);
      written = s.written ∙ (ap (λ (v : List ℕ). rows s.terms ++ v) at.written
          ∙ (sym (append_assoc (rows s.terms) (row t) (drop e ws)) ∙ ap (λ (v : List ℕ). v ++ drop e ws) (sym one_more)));
      each = λ i u k. at_each i u (nth_last s.terms t u i k);
      last = get_or-set_same starts (n + 1) e 0 room;
      within = at.within;
    }
      where
        one_more : rows (glue s.terms (and1 t none1)) ≡ rows s.terms ++ row t
        one_more = rows_glue s.terms (and1 t none1) ∙ ap (λ (v : List ℕ). rows s.terms ++ v) (append-nil (row t))

        kept : (i : ℕ) → i < n + 1 → get_or (set starts (n + 1) e) i 0 ≡ get_or starts i 0
        kept i h = let ne : i ≢ n + 1 = omega arith in get_or-set_other starts (n + 1) i e 0 ne

        at_each : (i : ℕ) (u : Term) →
            ((i < count s.terms) × (nth (listed s.terms) i ≡ some u)) ⊎ ((i ≡ count s.terms) × (t ≡ u)) →
            TermAt ws (get_or (set starts (n + 1) e) i 0) (get_or (set starts (n + 1) e) (i + 1) 0) u
        at_each i u (inl p) =
            let b : i < n + 1 = omega (arith, p.0, s.counted) in
            let c : i + 1 < n + 1 = omega (arith, p.0, s.counted) in
            rw (kept i b, kept (i + 1) c) (s.each i u p.1)
        at_each i u (inr p) =
            let d : i ≡ n = p.0 ∙ s.counted in
            let b : i < n + 1 = omega arith in
            let f : get_or (set starts (n + 1) e) i 0 ≡ z = kept i b ∙ (ap (λ (k : ℕ). get_or starts k 0) d ∙ s.last) in
            let g : get_or (set starts (n + 1) e) (i + 1) 0 ≡ e =
            ap (λ (k : ℕ). get_or (set starts (n + 1) e) (k + 1) 0) d ∙ get_or-set_same starts (n + 1) e 0 room in
            rw (f, g) (subst (TermAt ws z e) p.1 at)

  -- whatever sides the words have, what is left of them comes next
  module _ (n a z : ℕ) (starts : List ℕ) (s : SidesAt ps ws n a z starts)
      (us : Terms) (o : AllOver SmallLetter ps us) (w : rows us ≡ drop a ws) where
    pub what_is_left : n ≤ count us → drop z ws ≡ rows (others n us)
    what_is_left h = (rows_once Small ps s.terms (first n us) (drop z ws) (rows (others n us))
        s.over (over_first SmallLetter ps n us o) (s.counted ∙ sym (count_first n us h))
        (sym s.written ∙ (sym w ∙ (ap rows (sym (glue_split n us)) ∙ rows_glue (first n us) (others n us))))).1

    stands_next : (vs : Terms) → drop z ws ≡ rows vs → AllOver SmallLetter ps vs → Short vs → 0 < count vs →
        (t : Term) × (rest : List ℕ) × Over SmallLetter ps t × (size t ≤ 32) × (row t ++ rest ≡ drop z ws)
    stands_next none1 e p q c = absurd (omega arith)
    stands_next (and1 t ts) e p q c = (t, rows ts, p.0, q.0, sym e)

    pub next_side : Short us → n < count us →
        (t : Term) × (rest : List ℕ) × Over SmallLetter ps t × (size t ≤ 32) × (row t ++ rest ≡ drop z ws)
    next_side q h = stands_next (others n us) (what_is_left (omega arith)) (over_others SmallLetter ps n us o) (short_others n us q)
        (omega (arith, count_others n us (omega arith)))

  -- why there are none: no term, one too long, or more words
  pub no_side : (n m a z : ℕ) (starts : List ℕ) → SidesAt ps ws n a z starts → n < m → TermEnd Small ps ws z None →
      SidesRead ps ws m a None
  no_side n m a z starts s h none_there us c o q w =
      let t = next_side n a z starts s us o w q (omega arith) in none_there t.0 t.1 t.2 t.4

  pub long_side : (n m a z e : ℕ) (starts : List ℕ) → SidesAt ps ws n a z starts → n < m →
      (t : Term) → Over SmallLetter ps t → TermAt ws z e t → z + 64 < e → SidesRead ps ws m a None
  long_side n m a z e starts s h t p at long us c o q w =
      let k = next_side n a z starts s us o w q (omega arith) in
      let g = (rows_once Small ps (and1 t none1) (and1 k.0 none1) (drop e ws) k.1 (p, tt) (k.2, tt) refl
      (simp append-nil (sym at.written ∙ sym k.4))).0 in
      let d : t ≡ k.0 = cc in
      omega (arith, at.long, k.3, ap size d)

  more_words : (m a z : ℕ) (starts : List ℕ) → SidesAt ps ws m a z starts → (z ≡ length ws → ⊥) → SidesRead ps ws m a None
  more_words m a z starts s ne us c o q w =
      let d = count_others m us (omega (arith, c)) in
      let e : others m us ≡ none1 = no_more (others m us) (omega arith) in
      let g : length (drop z ws) ≡ 0 = ap length (what_is_left m a z starts s us o w (omega (arith, c)) ∙ ap rows e) in
      ne (omega (arith, length-drop z ws, s.within))
    where
      no_more : (ts : Terms) → count ts ≡ 0 → ts ≡ none1
      no_more none1 h = refl
      no_more (and1 t ts) h = absurd (omega (arith, h))

  -- all of them, if the last one ends where the words do
  pub sides_end : (n m a z : ℕ) (starts : List ℕ) → n ≡ m → SidesAt ps ws n a z starts →
      ((i : ℕ) → m < i → get_or starts i 0 ≡ 0) → SidesRead ps ws m a (then_some (eqb z (length ws)) starts)
  sides_end n m a z starts d s behind = by_end (eqb z (length ws)) refl
    where
      all : SidesAt ps ws m a z starts
      all = subst (λ (k : ℕ). SidesAt ps ws k a z starts) d s

      by_end : (b : Bool) → eqb z (length ws) ≡ b → SidesRead ps ws m a (then_some b starts)
      by_end true e = (subst (λ (k : ℕ). SidesAt ps ws m a k starts) (eqb-true z (length ws) e) all, behind)
      by_end false e = more_words m a z starts all (eqb-false z (length ws) e)
