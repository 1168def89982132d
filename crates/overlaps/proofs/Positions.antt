-- Parts of a term and the symbols of its row where they start.
use Rattle.std.proofs.Common.{◌≡◌, ℕ, zero, suc, ◌+◌, ◌-◌, ◌*◌, ◌<◌, ◌≤◌, List, [], ◌∷◌, ◌++◌, length, get_or, take, drop, sym, refl, ap}
use Rattle.std.proofs.Common.{◌∙◌, subst, ap₂, ⊎_elim, append_assoc, append-nil, arith, length-append, get_or-drop, drop-drop}
use mathlib.Core.Option.{some}
use lib.Seq.{take-append_seam, drop-append_seam}
use Rattle.rewriting.specs.Terms.{Term, letter, sign, Terms, none1, and1, count, size, sizes, Over, AllOver}
use Rattle.rewriting.specs.Rules.{Part, itself, in_part, Parts, in_this, in_later}
use Rattle.rewriting.specs.Overlaps.{fill, fills}
use Rattle.rewriting.proofs.Glueing.{size_some}
use Rattle.rewriting.proofs.Replacing.{puts_letter, put_letter, count_puts}
use Rattle.rewriting.proofs.Signature.{over_put, over_letters}
use Rattle.books.specs.Rows.{row, rows}
use Rattle.books.proofs.Glueing.{row_length}
use Rattle.store.proofs.Cases.{le_or_lt}
use Rattle.critical_pairs.specs.OverlapList.{index, indexes}
use Rattle.overlaps.specs.Positions.{At, holed}

-- each symbol starts a part
mutual
  pub at_index : (t : Term) (k : ℕ) → k < size t → (v : Term) × (p : Part v t) × (index p ≡ k)
  at_index (letter x) zero h = (letter x, itself, refl)
  at_index (letter x) (suc k) h = absurd (omega arith)
  at_index (sign f ts) zero h = (sign f ts, itself, refl)
  at_index (sign f ts) (suc k) h = let (v, p, e) = at_indexes ts k (omega arith) in (v, in_part p, omega (arith, e))

  at_indexes : (ts : Terms) (k : ℕ) → k < sizes ts → (v : Term) × (p : Parts v ts) × (indexes p ≡ k)
  at_indexes none1 k h = absurd (omega arith)
  at_indexes (and1 t ts) k h = ⊎_elim
      (λ l. let (v, p, e) = at_indexes ts (k - size t) (omega arith) in (v, in_later p, omega (arith, e)))
      (λ l. let (v, p, e) = at_index t k l in (v, in_this p, e))
      (le_or_lt (size t) k)

-- the words before a part and behind it
abbrev mutual
  pub before : {v t : Term} → Part v t → List ℕ
  before itself = []
  before (in_part {f = f} p) = 1 ∷ f ∷ befores p

  pub befores : {v : Term} {ts : Terms} → Parts v ts → List ℕ
  befores (in_this p) = before p
  befores (in_later {t = t} p) = row t ++ befores p

abbrev mutual
  pub behind : {v t : Term} → Part v t → List ℕ
  behind itself = []
  behind (in_part p) = behinds p

  pub behinds : {v : Term} {ts : Terms} → Parts v ts → List ℕ
  behinds (in_this {ts = ts} p) = behind p ++ rows ts
  behinds (in_later p) = behinds p

mutual
  pub before_length : {v t : Term} (p : Part v t) → length (before p) ≡ 2 * index p
  before_length itself = refl
  before_length (in_part p) = omega (arith, befores_length p)

  befores_length : {v : Term} {ts : Terms} (p : Parts v ts) → length (befores p) ≡ 2 * indexes p
  befores_length (in_this p) = before_length p
  befores_length (in_later {t = t} p) = length-append (row t) (befores p) ∙ omega (arith, row_length t, befores_length p)

-- another term in the part's place
mutual
  pub row_fill : {v t : Term} (p : Part v t) (w : Term) → row (fill p letter w) ≡ before p ++ (row w ++ behind p)
  row_fill itself w = sym (append-nil (row w))
  row_fill (in_part {f = f} p) w = ap (λ (xs : List ℕ). 1 ∷ f ∷ xs) (rows_fills p w)

  rows_fills : {v : Term} {ts : Terms} (p : Parts v ts) (w : Term) → rows (fills p letter w) ≡ befores p ++ (row w ++ behinds p)
  rows_fills (in_this {ts = ts} p) w =
      ap₂ (λ (xs ys : List ℕ). xs ++ ys) (row_fill p w) (ap rows (puts_letter ts))
      ∙ (append_assoc (before p) (row w ++ behind p) (rows ts)
      ∙ ap (λ (xs : List ℕ). before p ++ xs) (append_assoc (row w) (behind p) (rows ts)))
  rows_fills (in_later {t = t} p) w =
      ap₂ (λ (xs ys : List ℕ). xs ++ ys) (ap row (put_letter t)) (rows_fills p w)
      ∙ sym (append_assoc (row t) (befores p) (row w ++ behinds p))

mutual
  pub fill_same : {v t : Term} (p : Part v t) → fill p letter v ≡ t
  fill_same itself = refl
  fill_same (in_part {f = f} p) = ap (sign f) (fills_same p)

  fills_same : {v : Term} {ts : Terms} (p : Parts v ts) → fills p letter v ≡ ts
  fills_same (in_this {ts = ts} p) = ap₂ and1 (fill_same p) (puts_letter ts)
  fills_same (in_later {t = t} p) = ap₂ and1 (put_letter t) (fills_same p)

-- its size, and its letters and signs
mutual
  pub size_fill : {v t : Term} (p : Part v t) (w : Term) → size (fill p letter w) + size v ≡ size t + size w
  size_fill itself w = omega arith
  size_fill (in_part p) w = omega (arith, sizes_fills p w)

  sizes_fills : {v : Term} {ts : Terms} (p : Parts v ts) (w : Term) → sizes (fills p letter w) + size v ≡ sizes ts + size w
  sizes_fills (in_this {ts = ts} p) w = omega (arith, size_fill p w, ap sizes (puts_letter ts))
  sizes_fills (in_later {t = t} p) w = omega (arith, sizes_fills p w, ap size (put_letter t))

count_fills : {v : Term} {ts : Terms} (p : Parts v ts) (w : Term) → count (fills p letter w) ≡ count ts
count_fills (in_this {ts = ts} p) w = ap (λ n. 1 + n) (count_puts letter ts)
count_fills (in_later p) w = ap (λ n. 1 + n) (count_fills p w)

module _ (L : ℕ → Type 0) (ps : List ℕ) (w : Term) (ow : Over L ps w) where
  mutual
    pub over_fill : {v t : Term} (p : Part v t) → Over L ps t → Over L ps (fill p letter w)
    over_fill itself o = ow
    over_fill (in_part p) o = (o.0 ∙ ap some (sym (count_fills p w)), over_fills p o.1)

    over_fills : {v : Term} {ts : Terms} (p : Parts v ts) → AllOver L ps ts → AllOver L ps (fills p letter w)
    over_fills (in_this {ts = ts} p) o = (over_fill p o.0, subst (AllOver L ps) (sym (puts_letter ts)) o.1)
    over_fills (in_later {t = t} p) o = (subst (Over L ps) (sym (put_letter t)) o.0, over_fills p o.1)

pub over_more : (L M : ℕ → Type 0) (ps : List ℕ) (t : Term) → Over L ps t → ((x : ℕ) → L x → M x) → Over M ps t
over_more L M ps t o h = subst (Over M ps) (put_letter t) (over_put ps L M letter t o (λ x i. h x (over_letters ps L t o x i)))

-- the words of a part in the row
module _ {v t : Term} (place : Part v t) (ws : List ℕ) (e : ws ≡ row t) where
  row_at : ws ≡ before place ++ (row v ++ behind place)
  row_at = e ∙ (ap row (sym (fill_same place)) ∙ row_fill place v)

  pub words_from : drop (2 * index place) ws ≡ row v ++ behind place
  words_from = ap₂ (λ (n : ℕ) (xs : List ℕ). drop n xs) (sym (before_length place)) row_at
      ∙ drop-append_seam (before place) (row v ++ behind place)

  pub word_from : (k m : ℕ) → index place ≡ k → get_or ws (2 * k + m) 0 ≡ get_or (row v ++ behind place) m 0
  word_from k m i = ap (λ (n : ℕ). get_or ws (2 * n + m) 0) (sym i)
      ∙ (sym (get_or-drop (2 * index place) ws m 0) ∙ ap (λ (xs : List ℕ). get_or xs m 0) words_from)

  pub part_length : 2 * index place + 2 * size v + length (behind place) ≡ length ws
  part_length = omega (
    arith,
    ap length row_at,
    length-append (before place) (row v ++ behind place),
    length-append (row v) (behind place),
    before_length place,
    row_length v,
  )

  module _ (a z : ℕ) (at : At place a z) where
    pub at_within : z ≤ length ws
    at_within = omega (arith, part_length, at.from, at.to)

    pub at_some : a + 2 ≤ z
    at_some = omega (arith, at.to, size_some v)

    from_length : a ≡ length (before place)
    from_length = at.from ∙ sym (before_length place)

    pub at_cut : take (z - a) (drop a ws) ≡ row v
    at_cut =
        let d : z - a ≡ length (row v) = omega (arith, at.to, row_length v) in
        ap₂ (λ (n : ℕ) (xs : List ℕ). take n xs) d (ap (λ (n : ℕ). drop n ws) at.from ∙ words_from)
        ∙ take-append_seam (row v) (behind place)

    -- with a hole in its place
    pub at_holed : holed ws a z ≡ row (fill place letter (letter 16))
    at_holed =
        let d : a + length (row v) ≡ z = omega (arith, at.to, row_length v) in
        let f : take a ws ≡ before place =
        ap₂ (λ (n : ℕ) (xs : List ℕ). take n xs) from_length row_at ∙ take-append_seam (before place) (row v ++ behind place) in
        let g : drop z ws ≡ behind place =
        ap (λ (n : ℕ). drop n ws) (sym d) ∙ (sym (drop-drop (length (row v)) a ws)
        ∙ (ap (drop (length (row v))) (ap (λ (n : ℕ). drop n ws) at.from ∙ words_from) ∙ drop-append_seam (row v) (behind place))) in
        ap₂ (λ (xs ys : List ℕ). xs ++ (0 ∷ 16 ∷ ys)) f g ∙ sym (row_fill place (letter 16))
