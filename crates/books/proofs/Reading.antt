-- Reading terms is exact: what is read is written there, and what is written there is read.
use Rattle.std.proofs.Common.{◌≡◌, ℕ, zero, suc, ◌+◌, ◌≤◌, Bool, true, false, cond, T, ltb, List, [], ◌∷◌, ◌++◌, sym, refl, ap, ◌∙◌, subst}
use Rattle.std.proofs.Common.{append_assoc, zero-add, arith, ltb→lt, lt→ltb}
use mathlib.Core.Option.{Option, some, none}
use Rattle.rewriting.specs.Terms.{Term, letter, sign, Terms, none1, and1, glue, count, Over, AllOver}
use Rattle.books.specs.Rows.{row, rows}
use Rattle.books.specs.Reading.{Allowed, allowed, opens, first, others}
use Rattle.books.specs.Reading.{Found, symbol, topped, opened, read}
use Rattle.books.specs.declared.words.Letters.{Letters}
use Rattle.rewriting.proofs.Choosing.{no_some}
use Rattle.books.specs.declared.words.Letters.TheVariants.{Small, Any}
use Rattle.books.proofs.Glueing.{glue_none, first_glue, others_glue, glue_split, count_first, count_others, rows_glue}
use Rattle.books.proofs.Glueing.{over_first, over_others}

TTrue : (b : Bool) → T b → b ≡ true
TTrue true h = refl
TTrue false h = absurd h

-- the test for letters and its type
pub allowed_true : (l : Letters) (x : ℕ) → Allowed l x → allowed l x ≡ true
allowed_true Small x h = TTrue (ltb x 16) (lt→ltb x 16 h)
allowed_true Any x h = refl

pub allowed_is : (l : Letters) (x : ℕ) → allowed l x ≡ true → Allowed l x
allowed_is Small x h = ltb→lt x 16 (subst T (sym h) tt)
allowed_is Any x h = tt

module _ (l : Letters) (ps : List ℕ) where
  -- one symbol
  pub read_step : (m w x n : ℕ) (ws : List ℕ) → opens l ps w x ≡ some n →
      read l ps (suc m) (w ∷ x ∷ ws) ≡ topped w x n (read l ps (n + m) ws)
  read_step m w x n ws e = ap (λ (o : Option ℕ). opened w x o (λ k. read l ps (k + m) ws)) e

  pub read_stuck : (m w x : ℕ) (ws : List ℕ) → opens l ps w x ≡ none → read l ps (suc m) (w ∷ x ∷ ws) ≡ none
  read_stuck m w x ws e = ap (λ (o : Option ℕ). opened w x o (λ k. read l ps (k + m) ws)) e

  -- what is written is read
  mutual
    pub read_row_lem : (t : Term) (m : ℕ) (ws rest : List ℕ) (us : Terms) → Over (Allowed l) ps t →
        read l ps m ws ≡ some (us, rest) → read l ps (suc m) (row t ++ ws) ≡ some (and1 t us, rest)
    read_row_lem (letter x) m ws rest us o e =
        read_step m 0 x 0 ws (ap (λ (b : Bool). cond b (some 0) none) (allowed_true l x o))
        ∙ ap (topped 0 x 0) (ap (λ (k : ℕ). read l ps k ws) (zero-add m) ∙ e)
    read_row_lem (sign f ts) m ws rest us o e =
        read_step m 1 f (count ts) (rows ts ++ ws) o.0
        ∙ (ap (topped 1 f (count ts)) (read_rows_lem ts m ws rest us o.1 e) ∙ rw (first_glue ts us, others_glue ts us))

    pub read_rows_lem : (ts : Terms) (m : ℕ) (ws rest : List ℕ) (us : Terms) → AllOver (Allowed l) ps ts →
        read l ps m ws ≡ some (us, rest) → read l ps (count ts + m) (rows ts ++ ws) ≡ some (glue ts us, rest)
    read_rows_lem none1 m ws rest us o e = ap (λ (k : ℕ). read l ps k ws) (zero-add m) ∙ e
    read_rows_lem (and1 t ts) m ws rest us o e =
        let c : 1 + count ts + m ≡ suc (count ts + m) = omega arith in
        ap (λ (k : ℕ). read l ps k ((row t ++ rows ts) ++ ws)) c
        ∙ (ap (λ (v : List ℕ). read l ps (suc (count ts + m)) v) (append_assoc (row t) (rows ts) ws)
        ∙ read_row_lem t (count ts + m) (rows ts ++ ws) rest (glue ts us) o.0 (read_rows_lem ts m ws rest us o.1 e))

  -- just these terms
  pub read_these : (ts : Terms) (rest : List ℕ) → AllOver (Allowed l) ps ts → read l ps (count ts) (rows ts ++ rest) ≡ some (ts, rest)
  read_these ts rest o =
      let c : count ts + 0 ≡ count ts = omega arith in
      ap (λ (k : ℕ). read l ps k (rows ts ++ rest)) (sym c)
      ∙ (read_rows_lem ts 0 rest rest none1 o refl ∙ ap (λ (us : Terms). some (us, rest)) (glue_none ts))

  -- what is read is written
  abbrev pub Right : ℕ → List ℕ → Found → Type 0
  Right m ws none = Unit {0}
  Right m ws (some p) = (count p.0 ≡ m) × AllOver (Allowed l) ps p.0 × (rows p.0 ++ p.1 ≡ ws)

  if_some : {A : Type 0} (b : Bool) (a c : A) → cond b (some a) none ≡ some c → b ≡ true
  if_some true a c e = refl
  if_some false a c e = absurd (no_some e)

  if_zero : (b : Bool) (n : ℕ) → cond b (some 0) none ≡ some n → n ≡ 0
  if_zero true n e = cc
  if_zero false n e = absurd (no_some e)

  symbol_right : (w x n : ℕ) (ts : Terms) → opens l ps w x ≡ some n → count (first n ts) ≡ n → AllOver (Allowed l) ps ts →
      Over (Allowed l) ps (symbol w x (first n ts))
  symbol_right zero x n ts e c o = allowed_is l x (if_some (allowed l x) 0 n e)
  symbol_right (suc zero) x n ts e c o = (e ∙ ap some (sym c), over_first (Allowed l) ps n ts o)
  symbol_right (suc (suc w)) x n ts e c o = absurd (no_some e)

  symbol_rows : (w x n : ℕ) (ts : Terms) (rest ws : List ℕ) → opens l ps w x ≡ some n → rows ts ++ rest ≡ ws →
      (row (symbol w x (first n ts)) ++ rows (others n ts)) ++ rest ≡ w ∷ x ∷ ws
  symbol_rows zero x n ts rest ws e h = rw (if_zero (allowed l x) n e) (ap (λ (v : List ℕ). 0 ∷ x ∷ v) h)
  symbol_rows (suc zero) x n ts rest ws e h =
      ap (λ (v : List ℕ). 1 ∷ x ∷ (v ++ rest)) (sym (rows_glue (first n ts) (others n ts)) ∙ ap rows (glue_split n ts))
      ∙ ap (λ (v : List ℕ). 1 ∷ x ∷ v) h
  symbol_rows (suc (suc w)) x n ts rest ws e h = absurd (no_some e)

  topped_right : (w x n m : ℕ) (ws : List ℕ) → opens l ps w x ≡ some n → (o : Found) → Right (n + m) ws o →
      Right (suc m) (w ∷ x ∷ ws) (topped w x n o)
  topped_right w x n m ws e none h = tt
  topped_right w x n m ws e (some p) h =
      let k : n ≤ count p.0 = omega (arith, h.0) in (
        omega (arith, count_others n p.0 k, h.0),
        (symbol_right w x n p.0 e (count_first n p.0 k) h.1, over_others (Allowed l) ps n p.0 h.1),
        symbol_rows w x n p.0 p.1 ws e h.2,
      )

  opened_right : (w x m : ℕ) (ws : List ℕ) (o : Option ℕ) → opens l ps w x ≡ o →
      ((n : ℕ) → Right (n + m) ws (read l ps (n + m) ws)) →
      Right (suc m) (w ∷ x ∷ ws) (opened w x o (λ n. read l ps (n + m) ws))
  opened_right w x m ws none e h = tt
  opened_right w x m ws (some n) e h = topped_right w x n m ws e (read l ps (n + m) ws) (h n)

  pub read_right : (m : ℕ) (ws : List ℕ) → Right m ws (read l ps m ws)
  read_right zero ws = (refl, tt, refl)
  read_right (suc m) [] = tt
  read_right (suc m) (w ∷ []) = tt
  read_right (suc m) (w ∷ x ∷ ws) = opened_right w x m ws (opens l ps w x) refl (λ n. read_right (n + m) ws)
