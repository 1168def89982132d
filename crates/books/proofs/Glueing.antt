-- Terms behind terms, and the words that they are written with.
use Rattle.std.proofs.Common.{◌≡◌, ℕ, zero, suc, ◌+◌, ◌*◌, ◌≤◌, List, ◌++◌, length, sym, refl, ap, ◌∙◌, append_assoc, one-add, arith}
use Rattle.std.proofs.Common.{length-append}
use Rattle.rewriting.specs.Terms.{Term, letter, sign, Terms, none1, and1, glue, count, size, sizes, AllOver}
use Rattle.rewriting.proofs.Glueing.{count_glue}
use Rattle.books.specs.Rows.{row, rows}
use Rattle.books.specs.Reading.{first, others}

pub glue_none : (ts : Terms) → glue ts none1 ≡ ts
glue_none none1 = refl
glue_none (and1 t ts) = ap (and1 t) (glue_none ts)

pub first_glue : (ts us : Terms) → first (count ts) (glue ts us) ≡ ts
first_glue none1 us = refl
first_glue (and1 t ts) us = rw (one-add (count ts)) (ap (and1 t) (first_glue ts us))

pub others_glue : (ts us : Terms) → others (count ts) (glue ts us) ≡ us
others_glue none1 us = refl
others_glue (and1 t ts) us = rw (one-add (count ts)) (others_glue ts us)

pub glue_split : (n : ℕ) (ts : Terms) → glue (first n ts) (others n ts) ≡ ts
glue_split zero ts = refl
glue_split (suc n) none1 = refl
glue_split (suc n) (and1 t ts) = ap (and1 t) (glue_split n ts)

pub count_first : (n : ℕ) (ts : Terms) → n ≤ count ts → count (first n ts) ≡ n
count_first zero ts h = refl
count_first (suc n) none1 h = absurd (omega arith)
count_first (suc n) (and1 t ts) h = omega (arith, count_first n ts (omega arith))

pub count_others : (n : ℕ) (ts : Terms) → n ≤ count ts → n + count (others n ts) ≡ count ts
count_others n ts h = let e = ap count (glue_split n ts) in omega (arith, count_glue (first n ts) (others n ts), count_first n ts h)

pub rows_glue : (ts us : Terms) → rows (glue ts us) ≡ rows ts ++ rows us
rows_glue none1 us = refl
rows_glue (and1 t ts) us = ap (λ (w : List ℕ). row t ++ w) (rows_glue ts us) ∙ sym (append_assoc (row t) (rows ts) (rows us))

-- each symbol is two words
mutual
  pub row_length : (t : Term) → length (row t) ≡ 2 * size t
  row_length (letter x) = refl
  row_length (sign f ts) = omega (arith, rows_length ts)

  pub rows_length : (ts : Terms) → length (rows ts) ≡ 2 * sizes ts
  rows_length none1 = refl
  rows_length (and1 t ts) = length-append (row t) (rows ts) ∙ omega (arith, row_length t, rows_length ts)

module _ (L : ℕ → Type 0) (ps : List ℕ) where
  pub over_glue : (ts us : Terms) → AllOver L ps ts → AllOver L ps us → AllOver L ps (glue ts us)
  over_glue none1 us h k = k
  over_glue (and1 t ts) us h k = (h.0, over_glue ts us h.1 k)

  pub over_first : (n : ℕ) (ts : Terms) → AllOver L ps ts → AllOver L ps (first n ts)
  over_first zero ts h = tt
  over_first (suc n) none1 h = tt
  over_first (suc n) (and1 t ts) h = (h.0, over_first n ts h.1)

  pub over_others : (n : ℕ) (ts : Terms) → AllOver L ps ts → AllOver L ps (others n ts)
  over_others zero ts h = h
  over_others (suc n) none1 h = tt
  over_others (suc n) (and1 t ts) h = over_others n ts h.1
