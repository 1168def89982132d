-- Terms in a row from any symbol on (a forest): what stands behind the first symbol.
use Rattle.std.proofs.Common.{◌≡◌, ℕ, ◌+◌, ◌<◌, List, drop, refl, arith}
use Rattle.rewriting.specs.Terms.{Term, letter, sign, Terms, none1, and1, glue, sizes, AllOver}
use Rattle.rewriting.proofs.Glueing.{sizes_glue}
use Rattle.books.specs.Rows.{rows}
use Rattle.books.proofs.Glueing.{rows_glue, over_glue}

-- the terms behind the first symbol
abbrev pub opened : Term → Terms → Terms
opened (letter x) ts = ts
opened (sign f us) ts = glue us ts

abbrev pub behind : Terms → Terms
behind none1 = none1
behind (and1 t ts) = opened t ts

pub behind_sizes : (ts : Terms) → 0 < sizes ts → sizes (behind ts) + 1 ≡ sizes ts
behind_sizes none1 h = absurd (omega arith)
behind_sizes (and1 (letter x) ts) h = omega arith
behind_sizes (and1 (sign f us) ts) h = omega (arith, sizes_glue us ts)

pub behind_rows : (ts : Terms) → rows (behind ts) ≡ drop 2 (rows ts)
behind_rows none1 = refl
behind_rows (and1 (letter x) ts) = refl
behind_rows (and1 (sign f us) ts) = rows_glue us ts

pub behind_over : (L : ℕ → Type 0) (ps : List ℕ) (ts : Terms) → AllOver L ps ts → AllOver L ps (behind ts)
behind_over L ps none1 o = tt
behind_over L ps (and1 (letter x) ts) o = o.1
behind_over L ps (and1 (sign f us) ts) o = over_glue L ps us ts o.0.1 o.1
