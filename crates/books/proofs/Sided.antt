-- Sides of equations as terms in a row, and back.
use Rattle.std.proofs.Common.{◌≡◌, ℕ, zero, suc, ◌+◌, ◌*◌, ◌≤◌, List, [], ◌∷◌, ◌++◌, length, refl, ap, ◌∙◌, subst, append_assoc, arith}
use mathlib.Core.Option.{some}
use Rattle.rewriting.specs.Terms.{nth, Term, Terms, none1, and1, glue, count, AllOver, SmallLetter}
use Rattle.rewriting.specs.Rules.{Eq}
use Rattle.rewriting.specs.Books.{Sides, AllSides}
use Rattle.books.specs.Rows.{row, rows, rowEs, rowTerms}
use Rattle.books.specs.Reading.{others, paired}
use Rattle.books.specs.Layouts.{sides, listed, Short}
use Rattle.rewriting.proofs.Choosing.{no_some}

-- a list of terms as parts
abbrev pub terms : List Term → Terms
terms [] = none1
terms (t ∷ ts) = and1 t (terms ts)

pub listed_terms : (ts : List Term) → listed (terms ts) ≡ ts
listed_terms [] = refl
listed_terms (t ∷ ts) = ap (λ (us : List Term). t ∷ us) (listed_terms ts)

pub terms_listed : (ts : Terms) → terms (listed ts) ≡ ts
terms_listed none1 = refl
terms_listed (and1 t ts) = ap (and1 t) (terms_listed ts)

pub count_terms : (ts : List Term) → count (terms ts) ≡ length ts
count_terms [] = refl
count_terms (t ∷ ts) = omega (arith, count_terms ts)

pub rows_terms : (ts : List Term) → rows (terms ts) ≡ rowTerms ts
rows_terms [] = refl
rows_terms (t ∷ ts) = ap (λ (w : List ℕ). row t ++ w) (rows_terms ts)

pub glue_terms : (ts us : List Term) → terms (ts ++ us) ≡ glue (terms ts) (terms us)
glue_terms [] us = refl
glue_terms (t ∷ ts) us = ap (and1 t) (glue_terms ts us)

pub length_sides : (es : List Eq) → length (sides es) ≡ 2 * length es
length_sides [] = refl
length_sides (e ∷ es) = omega (arith, length_sides es)

pub rows_sides : (es : List Eq) → rows (terms (sides es)) ≡ rowEs es
rows_sides [] = refl
rows_sides (e ∷ es) = ap (λ (w : List ℕ). row e.left ++ (row e.right ++ w)) (rows_sides es)

-- two lists of sides, one behind the other
pub rows_both : (es ds : List Eq) → rows (terms (sides es ++ sides ds)) ≡ rowEs es ++ rowEs ds
rows_both [] ds = rows_sides ds
rows_both (e ∷ es) ds =
    ap (λ (w : List ℕ). row e.left ++ (row e.right ++ w)) (rows_both es ds)
    ∙ simp append_assoc

-- the sides of a book's equations and rules
module _ (ps : List ℕ) where
  rest_sides : (e : Eq) (es : List Eq) → AllSides ps (e ∷ es) → AllSides ps es
  rest_sides e es h i d k = h (suc i) d k

  pub over_sides : (es : List Eq) (ts : List Term) → AllSides ps es → AllOver SmallLetter ps (terms ts) →
      AllOver SmallLetter ps (terms (sides es ++ ts))
  over_sides [] ts h k = k
  over_sides (e ∷ es) ts h k = let s = h 0 e refl in (s.left, (s.right, over_sides es ts (rest_sides e es h) k))

  pub short_sides : (es : List Eq) (ts : List Term) → AllSides ps es → Short (terms ts) → Short (terms (sides es ++ ts))
  short_sides [] ts h k = k
  short_sides (e ∷ es) ts h k = let s = h 0 e refl in (s.left_size, (s.right_size, short_sides es ts (rest_sides e es h) k))

  -- and back
  pub sides_paired : (n : ℕ) (ts : Terms) → AllOver SmallLetter ps ts → Short ts → AllSides ps (paired n ts)
  sides_paired zero ts o s i e k = absurd (let z : ◌≡◌ {A = ℕ} 0 1 = cc in omega arith)
  sides_paired (suc n) none1 o s i e k = absurd (let z : ◌≡◌ {A = ℕ} 0 1 = cc in omega arith)
  sides_paired (suc n) (and1 t none1) o s i e k = absurd (let z : ◌≡◌ {A = ℕ} 0 1 = cc in omega arith)
  sides_paired (suc n) (and1 t (and1 u ts)) o s zero e k =
      let q : record { left = t; right = u } ≡ e = cc in
      subst (Sides ps) q (record { left = o.0; right = o.1.0; left_size = s.0; right_size = s.1.0 })
  sides_paired (suc n) (and1 t (and1 u ts)) o s (suc i) e k = sides_paired n ts o.1.1 s.1.1 i e k

-- terms by twos are the equations whose sides they are
pub paired_sides : (es : List Eq) (ts : Terms) → paired (length es) (glue (terms (sides es)) ts) ≡ es
paired_sides [] ts = refl
paired_sides (e ∷ es) ts = ap (λ (ds : List Eq). e ∷ ds) (paired_sides es ts)

pub length_paired : (n : ℕ) (ts : Terms) → 2 * n ≤ count ts → length (paired n ts) ≡ n
length_paired zero ts h = refl
length_paired (suc n) none1 h = absurd (omega arith)
length_paired (suc n) (and1 t none1) h = absurd (omega arith)
length_paired (suc n) (and1 t (and1 u ts)) h = omega (arith, length_paired n ts (omega arith))

pub listed_paired : (n : ℕ) (ts : Terms) → 2 * n ≤ count ts → sides (paired n ts) ++ listed (others (2 * n) ts) ≡ listed ts
listed_paired zero ts h = refl
listed_paired (suc n) none1 h = absurd (omega arith)
listed_paired (suc n) (and1 t none1) h = absurd (omega arith)
listed_paired (suc n) (and1 t (and1 u ts)) h =
    let e : 2 * suc n ≡ suc (suc (2 * n)) = omega arith in
    rw e (ap (λ (us : List Term). t ∷ u ∷ us) (listed_paired n ts (omega arith)))

-- the sides of equation i
pub nth_left : (es : List Eq) (i : ℕ) (e : Eq) → nth es i ≡ some e → nth (sides es) (2 * i) ≡ some e.left
nth_left [] i e h = absurd (no_some h)
nth_left (d ∷ es) zero e h = let q : d ≡ e = cc in ap (λ (c : Eq). some c.left) q
nth_left (d ∷ es) (suc i) e h = let k : 2 * suc i ≡ suc (suc (2 * i)) = omega arith in rw k (nth_left es i e h)

pub nth_right : (es : List Eq) (i : ℕ) (e : Eq) → nth es i ≡ some e → nth (sides es) (2 * i + 1) ≡ some e.right
nth_right [] i e h = absurd (no_some h)
nth_right (d ∷ es) zero e h = let q : d ≡ e = cc in ap (λ (c : Eq). some c.right) q
nth_right (d ∷ es) (suc i) e h = let k : 2 * suc i + 1 ≡ suc (suc (2 * i + 1)) = omega arith in rw k (nth_right es i e h)

-- behind the sides of some equations
pub nth_behind : (es : List Eq) (ts : List Term) (k : ℕ) → nth (sides es ++ ts) (2 * length es + k) ≡ nth ts k
nth_behind [] ts k = let e : 2 * 0 + k ≡ k = omega arith in rw e refl
nth_behind (d ∷ es) ts k =
    let e : 2 * suc (length es) + k ≡ suc (suc (2 * length es + k)) = omega arith in
    rw e (nth_behind es ts k)

-- in front of others
pub nth_front : {A : Type 0} (xs ys : List A) (i : ℕ) (a : A) → nth xs i ≡ some a → nth (xs ++ ys) i ≡ some a
nth_front [] ys i a h = absurd (no_some h)
nth_front (x ∷ xs) ys zero a h = h
nth_front (x ∷ xs) ys (suc i) a h = nth_front xs ys i a h
