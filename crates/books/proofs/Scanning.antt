-- Where terms end: what a loop over symbols keeps, and what it comes to.
use Rattle.std.proofs.Common.{◌≡◌, ℕ, zero, suc, ◌+◌, ◌-◌, ◌*◌, ◌<◌, ◌≤◌, List, ◌∷◌, ◌++◌, length, get_or, drop, Some, None}
use Rattle.std.proofs.Common.{Option as Maybe, sym, refl, ap, ◌∙◌, append-nil, add-one, arith, length-append, length-drop, drop-cons}
use mathlib.Core.Option.{some, none}
use Rattle.rewriting.specs.Terms.{Terms, none1, and1, count, sizes, AllOver}
use Rattle.rewriting.proofs.Glueing.{size_some, count_sizes}
use Rattle.books.specs.Rows.{row, rows}
use Rattle.books.specs.Reading.{Allowed, opens, tag, number, SymbolAt, Asks}
use Rattle.books.specs.Reading.{Found, topped, read, left_of, TermsAt, TermsEnd, TermEnd}
use Rattle.books.specs.declared.words.Symbol.{Symbol}
use Rattle.books.specs.declared.words.Letters.{Letters}
use Rattle.books.proofs.Glueing.{row_length, rows_length}
use Rattle.rewriting.proofs.Choosing.{no_some}
use Rattle.books.proofs.Reading.{read_step, read_stuck, read_these, Right, read_right}

pub drop_two : (ws : List ℕ) (i : ℕ) → i + 2 ≤ length ws → drop i ws ≡ get_or ws i 0 ∷ get_or ws (i + 1) 0 ∷ drop (i + 2) ws
drop_two ws i h =
    let a : i < length ws = omega arith in
    let b : i + 1 < length ws = omega arith in
    let e : suc (i + 1) ≡ i + 2 = omega arith in
    drop-cons ws i 0 a ∙ ap (λ (v : List ℕ). get_or ws i 0 ∷ v)
    (ap (λ (k : ℕ). drop k ws) (sym (add-one i)) ∙ (drop-cons ws (i + 1) 0 b ∙ ap (λ (k : ℕ). get_or ws (i + 1) 0 ∷ drop k ws) e))

left_topped : (w x n : ℕ) (o : Found) → left_of (topped w x n o) ≡ left_of o
left_topped w x n none = refl
left_topped w x n (some p) = refl

module _ (l : Letters) (ps : List ℕ) where
  -- fewer words than two for each term
  too_few : (m : ℕ) (ws : List ℕ) → length ws < 2 * m → (o : Found) → Right l ps m ws o → left_of o ≡ none
  too_few m ws h none r = refl
  too_few m ws h (some p) r =
      absurd (omega (arith, r.0, ap length r.2, length-append (rows p.0) p.1, rows_length p.0, count_sizes p.0))

  pub left_few : (m : ℕ) (ws : List ℕ) → length ws < 2 * m → left_of (read l ps m ws) ≡ none
  left_few m ws h = too_few m ws h (read l ps m ws) (read_right l ps m ws)

  opens_none : (w x : ℕ) → 2 ≤ w → opens l ps w x ≡ none
  opens_none zero x h = absurd (omega arith)
  opens_none (suc zero) x h = absurd (omega arith)
  opens_none (suc (suc w)) x h = refl

  module _ (ws : List ℕ) where
    symbol_first : (i : ℕ) (y : Symbol) → SymbolAt ws i (Some y) → drop i ws ≡ tag y ∷ number y ∷ drop (i + 2) ws
    symbol_first i y h =
        drop_two ws i h.0 ∙ (ap (λ (w : ℕ). w ∷ get_or ws (i + 1) 0 ∷ drop (i + 2) ws) h.1
        ∙ ap (λ (x : ℕ). tag y ∷ x ∷ drop (i + 2) ws) h.2)

    -- a turn of the loop, by the symbol at place i
    pub turn : (m i n : ℕ) (y : Symbol) → 0 < m → SymbolAt ws i (Some y) → Asks l ps y (Some n) →
        left_of (read l ps m (drop i ws)) ≡ left_of (read l ps (m - 1 + n) (drop (i + 2) ws))
    turn zero i n y p h e = absurd (omega arith)
    turn (suc m) i n y p h e =
        let c : n + m ≡ suc m - 1 + n = omega arith in
        ap (λ (v : List ℕ). left_of (read l ps (suc m) v)) (symbol_first i y h)
        ∙ (ap left_of (read_step l ps m (tag y) (number y) n (drop (i + 2) ws) e)
        ∙ (left_topped (tag y) (number y) n (read l ps (n + m) (drop (i + 2) ws))
        ∙ ap (λ (k : ℕ). left_of (read l ps k (drop (i + 2) ws))) c))

    pub stuck : (m i : ℕ) (y : Symbol) → 0 < m → SymbolAt ws i (Some y) → Asks l ps y None →
        left_of (read l ps m (drop i ws)) ≡ none
    stuck zero i y p h e = absurd (omega arith)
    stuck (suc m) i y p h e =
        ap (λ (v : List ℕ). left_of (read l ps (suc m) v)) (symbol_first i y h)
        ∙ ap left_of (read_stuck l ps m (tag y) (number y) (drop (i + 2) ws) e)

    pub no_symbol : (m i : ℕ) → 0 < m → i + 2 ≤ length ws → 2 ≤ get_or ws i 0 → left_of (read l ps m (drop i ws)) ≡ none
    no_symbol zero i p h e = absurd (omega arith)
    no_symbol (suc m) i p h e =
        ap (λ (v : List ℕ). left_of (read l ps (suc m) v)) (drop_two ws i h)
        ∙ ap left_of (read_stuck l ps m (get_or ws i 0) (get_or ws (i + 1) 0) (drop (i + 2) ws)
        (opens_none (get_or ws i 0) (get_or ws (i + 1) 0) e))

    -- the end
    at_end : (m a z : ℕ) → a ≤ z → z ≤ length ws → (o : Found) → Right l ps m (drop a ws) o → left_of o ≡ some (drop z ws) →
        TermsAt l ps m ws a z
    at_end m a z h k none r e = absurd (no_some e)
    at_end m a z h k (some p) r e =
        let q : p.1 ≡ drop z ws = cc in
        let w : drop a ws ≡ rows p.0 ++ drop z ws = sym r.2 ∙ ap (λ (v : List ℕ). rows p.0 ++ v) q in
        record {
          terms = p.0;
          counted = r.0;
          over = r.1;
          written = w;
          long = omega (
            arith,
            ap length w,
            length-append (rows p.0) (drop z ws),
            rows_length p.0,
            length-drop a ws,
            length-drop z ws,
          );
          within = k;
        }

    pub ended : (m a z : ℕ) → a ≤ z → z ≤ length ws → left_of (read l ps m (drop a ws)) ≡ some (drop z ws) → TermsAt l ps m ws a z
    ended m a z h k e = at_end m a z h k (read l ps m (drop a ws)) (read_right l ps m (drop a ws)) e

    pub none_there : (m a : ℕ) → left_of (read l ps m (drop a ws)) ≡ none → TermsEnd l ps m ws a None
    none_there m a e g ts rest c o w =
        let r : read l ps m (drop a ws) ≡ some (ts, rest) =
        ap (read l ps m) (sym w) ∙ (ap (λ (k : ℕ). read l ps k (rows ts ++ rest)) (sym c) ∙ read_these l ps ts rest o) in
        no_some (sym e ∙ ap left_of r)

-- one term
one_of : (l : Letters) (ps : List ℕ) (ws : List ℕ) (a z : ℕ) (ts : Terms) → count ts ≡ 1 → AllOver (Allowed l) ps ts →
    drop a ws ≡ rows ts ++ drop z ws → z ≡ a + 2 * sizes ts → z ≤ length ws → TermEnd l ps ws a (Some z)
one_of l ps ws a z none1 c o w g h = absurd (omega (arith, c))
one_of l ps ws a z (and1 t none1) c o w g h =
    (t, o.0, record { written = w ∙ ap (λ (v : List ℕ). v ++ drop z ws) (append-nil (row t)); long = omega (arith, g); within = h })
one_of l ps ws a z (and1 t (and1 u us)) c o w g h = absurd (omega (arith, c))

no_one : (l : Letters) (ps : List ℕ) (ws : List ℕ) (a : ℕ) → TermsEnd l ps 1 ws a None → TermEnd l ps ws a None
no_one l ps ws a h t rest o w =
    h (omega (arith, ap length w, length-append (row t) rest, row_length t, size_some t, length-drop a ws)) (and1 t none1) rest refl (o, tt)
    (ap (λ (v : List ℕ). v ++ rest) (append-nil (row t)) ∙ w)

pub one_term : (l : Letters) (ps : List ℕ) (ws : List ℕ) (a : ℕ) (r : Maybe ℕ) → TermsEnd l ps 1 ws a r → TermEnd l ps ws a r
one_term l ps ws a (Some z) h = one_of l ps ws a z h.terms h.counted h.over h.written h.long h.within
one_term l ps ws a None h = no_one l ps ws a h
