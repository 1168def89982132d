-- Writing a row: the words so far, and the roots that hold the terms still to be written, the first uppermost.
use Rattle.std.proofs.Common.{◌≡◌, ℕ, zero, suc, ◌+◌, ◌-◌, ◌*◌, ◌<◌, ◌≤◌, ◌≢◌, List, [], ◌∷◌, ◌++◌, length, get_or, take, set, Err, sym}
use Rattle.std.proofs.Common.{refl, ap, ◌∙◌, ⊎_elim, append_assoc, append-nil, arith, length-append, length-set, length-take-le}
use Rattle.std.proofs.Common.{get_or-set_other, Result, IsErrAnd}
use Rattle.std.proofs.lemmas.Result.{err_from_is_err_and}
use Rattle.std.proofs.lemmas.List.{take_more_set}
use Rattle.rewriting.specs.Terms.{Term, letter, sign, Terms, none1, and1, count, size, sizes, glue}
use Rattle.books.specs.Rows.{row, rows}
use Rattle.books.proofs.Glueing.{rows_glue, rows_length, row_length}
use Rattle.rewriting.proofs.Glueing.{count_sizes, size_some}
use Rattle.store.specs.declared.types.Store.{Store}
use Rattle.store.specs.declared.types.Roots.{Roots}
use Rattle.store.specs.declared.types.Short.{Short}
use Rattle.store.specs.declared.types.Short.TheVariants.{NoWord, NoCell}
use Rattle.store.specs.Slots.{parts_by}
use Rattle.store.specs.Roots.{HasRoots, root_at}
use Rattle.store.specs.Stacks.{root_in, StackedOn, CutTo}
use Rattle.store.specs.Stores.{term_in, part_in, parts_in, held, terms_down, Inside}
use Rattle.store.specs.Transfers.{inner, tag_word, number_word, PartsPushed, SymbolWritten, SymbolOrShort, RootsBelow}
use Rattle.store.specs.Transfers.{Begun, WrittenOrShort}
use Rattle.store.proofs.Cases.{le_or_lt, last_or_below}
use Rattle.store.proofs.Forests.{down_same, down_count}

-- what a refused push comes to, where a row is written
pub no_cell : {A : Type 0} (x : Result A Short) → IsErrAnd x (λ s. s ≡ NoCell) → x ≡ Err NoCell
no_cell x h = let p = err_from_is_err_and x h in p.1 ∙ ap Err p.2

-- pushing parts, from the last on
pub pushed_more : (a : Store) (q : Roots) (i k n : ℕ) (r : Roots) (p : ℕ) (s : Roots) → PartsPushed a q i (k + 1) n r →
    p ≡ part_in a i k → p < a.count → StackedOn r r.top p s → HasRoots s.cells.now s.top → (m : ℕ) → m ≡ suc n →
    PartsPushed a q i k m s
pushed_more a q i k n r p s h e l x f m z =
    let same : (j : ℕ) → j < r.top → root_in s j ≡ root_in r j = λ j y. x.rest j (λ w. omega arith) in
    let at : root_in s (q.top + n) ≡ part_in a i k = ap (λ (j : ℕ). root_in s j) (sym h.top) ∙ x.is ∙ e in
    record {
      long = x.long ∙ h.long;
      top = omega (arith, x.top, h.top);
      fits = f;
      low = λ j y w. ⊎_elim
          (λ v. let u : root_in s j ≡ p = ap (λ (o : ℕ). root_in s o) v ∙ x.is in omega arith)
          (λ v. let u = same j v in let b = h.low j y v in omega arith)
          (last_or_below j r.top (omega (arith, x.top)));
      rest = λ j y. same j (omega (arith, h.top)) ∙ h.rest j y;
      is = ap (λ (o : ℕ). terms_down a s q.top o) z
          ∙ ap (λ (o : ℕ). and1 (term_in a o) (terms_down a s q.top n)) at
          ∙ ap (and1 (term_in a (part_in a i k))) (down_same a a r s q.top n
          (λ j y. ap (λ (o : ℕ). term_in a o) (same j (omega (arith, h.top)))) ∙ h.is)
          ∙ sym (ap (parts_by (λ j. term_in a j) (λ o. part_in a i o) k) z);
    }

-- the symbol of a term and the rows of its parts are its row
row_inner : (t : Term) → row t ≡ tag_word t ∷ number_word t ∷ rows (inner t)
row_inner (letter x) = refl
row_inner (sign f ts) = refl

pub size_inner : (t : Term) → size t ≡ 1 + sizes (inner t)
size_inner (letter x) = refl
size_inner (sign f ts) = refl

-- the roots of the upper part and of the lower
pub down_join : (a : Store) (r : Roots) (from1 m n : ℕ) →
    terms_down a r from1 (m + n) ≡ glue (terms_down a r (from1 + m) n) (terms_down a r from1 m)
down_join a r from1 m zero = let z : m + 0 ≡ m = omega arith in ap (λ (o : ℕ). terms_down a r from1 o) z
down_join a r from1 m (suc n) =
    let z : m + suc n ≡ suc (m + n) = omega arith in let y : from1 + (m + n) ≡ from1 + m + n = omega arith in
    ap (λ (o : ℕ). terms_down a r from1 o) z
    ∙ ap (λ (o : ℕ). and1 (held a r o) (terms_down a r from1 (m + n))) y
    ∙ ap (and1 (held a r (from1 + m + n))) (down_join a r from1 m n)

-- two words more
two_more : (ws : List ℕ) (at x y : ℕ) → at + 2 ≤ length ws → take (at + 2) (set (set ws at x) (at + 1) y) ≡ take at ws ++ x ∷ y ∷ []
two_more ws at x y l =
    let us = set ws at x in
    let long : length us ≡ length ws = simp length-set in
    let z : at + 2 ≡ at + 1 + 1 = omega arith in
    ap (λ (n : ℕ). take n (set us (at + 1) y)) z
    ∙ take_more_set us (at + 1) y (omega arith)
    ∙ ap (λ (xs : List ℕ). xs ++ y ∷ []) (take_more_set ws at x (omega arith))
    ∙ append_assoc (take at ws) (x ∷ []) (y ∷ [])

-- words up to `at` are written, and the roots from base on hold the rest of t
pub record Emitted (a : Store) (base : ℕ) (q : Roots) (t : Term) (vs : List ℕ) (at : ℕ) (r : Roots) (ws : List ℕ) : Type 0 where
  pub inside : Inside a r
  pub above : base ≤ r.top
  pub below : RootsBelow base q r
  pub within : at ≤ length ws
  pub long : length ws ≡ length vs
  pub is : take at ws ++ rows (terms_down a r base (r.top - base)) ≡ row t
  pub tail : (j : ℕ) → at ≤ j → get_or ws j 0 ≡ get_or vs j 0

pub emitted_size : (a : Store) (base : ℕ) (q : Roots) (t : Term) (vs : List ℕ) (at : ℕ) (r : Roots) (ws : List ℕ) →
    Emitted a base q t vs at r ws →
    at + 2 * sizes (terms_down a r base (r.top - base)) ≡ 2 * size t
emitted_size a base q t vs at r ws e =
    let h = ap length e.is in
    let b = length-append (take at ws) (rows (terms_down a r base (r.top - base))) in
    omega (arith, length-take-le at ws e.within, rows_length (terms_down a r base (r.top - base)), row_length t)

-- one symbol more
module _ (a : Store) (base : ℕ) (q : Roots) (t : Term) (vs : List ℕ) (at : ℕ) (r : Roots) (ws : List ℕ) (e : Emitted a base q t vs at r ws)
    (more : base < r.top) where
  pub pending : terms_down a r base (r.top - base) ≡ and1 (held a r (r.top - 1)) (terms_down a r base (r.top - 1 - base))
  pending =
      let z : r.top - base ≡ suc (r.top - 1 - base) = omega arith in
      let y : base + (r.top - 1 - base) ≡ r.top - 1 = omega arith in
      ap (λ (o : ℕ). terms_down a r base o) z ∙ ap (λ (o : ℕ). and1 (held a r o) (terms_down a r base (r.top - 1 - base))) y

  pub room_left : at + 2 ≤ 2 * size t
  room_left = omega (arith, emitted_size a base q t vs at r ws e, ap sizes pending, size_some (held a r (r.top - 1)))

  down_rest : (s : Roots) → RootsBelow (r.top - 1) r s → terms_down a s base (r.top - 1 - base) ≡ terms_down a r base (r.top - 1 - base)
  down_rest s b = down_same a a r s base (r.top - 1 - base) (λ j l. ap (λ (o : ℕ). term_in a o) (b.rest j (omega arith)))

  module _ (s : Roots) (xs : List ℕ) (b : RootsBelow (r.top - 1) r s) (w : SymbolWritten a r s) (fits : at + 2 ≤ length ws)
      (put : xs ≡ set (set ws at (tag_word (held a r (r.top - 1)))) (at + 1) (number_word (held a r (r.top - 1)))) where
    pending_next : terms_down a s base (s.top - base) ≡ glue (inner (held a r (r.top - 1))) (terms_down a r base (r.top - 1 - base))
    pending_next =
        let n = count (inner (held a r (r.top - 1))) in
        let z : s.top - base ≡ r.top - 1 - base + n = omega (arith, w.top) in
        let y : base + (r.top - 1 - base) ≡ r.top - 1 = omega arith in
        ap (λ (o : ℕ). terms_down a s base o) z ∙ down_join a s base (r.top - 1 - base) n
        ∙ ap (λ (us : Terms). glue us (terms_down a s base (r.top - 1 - base))) (ap (λ (o : ℕ). terms_down a s o n) y ∙ w.is)
        ∙ ap (glue (inner (held a r (r.top - 1)))) (down_rest s b)

    words_next : take (at + 2) xs ++ rows (terms_down a s base (s.top - base)) ≡ row t
    words_next =
        let u = held a r (r.top - 1) in let rest = rows (terms_down a r base (r.top - 1 - base)) in
        ap (λ (ys : List ℕ). take (at + 2) ys ++ rows (terms_down a s base (s.top - base))) put
        ∙ ap (λ (ys : List ℕ). ys ++ rows (terms_down a s base (s.top - base))) (two_more ws at (tag_word u) (number_word u) fits)
        ∙ ap (λ (ys : List ℕ). (take at ws ++ tag_word u ∷ number_word u ∷ []) ++ ys)
        (ap rows pending_next ∙ rows_glue (inner u) (terms_down a r base (r.top - 1 - base)))
        ∙ append_assoc (take at ws) (tag_word u ∷ number_word u ∷ []) (rows (inner u) ++ rest)
        ∙ ap (λ (ys : List ℕ). take at ws ++ (ys ++ rest)) (sym (row_inner u))
        ∙ ap (λ (us : Terms). take at ws ++ rows us) (sym pending)
        ∙ e.is

    tail_next : (j : ℕ) → at + 2 ≤ j → get_or xs j 0 ≡ get_or vs j 0
    tail_next j l = ap (λ (ys : List ℕ). get_or ys j 0) put
        ∙ (let ne1 : j ≢ at = (λ z. omega arith) in let ne2 : j ≢ at + 1 = (λ z. omega arith) in
        rw get_or-set_other (rw get_or-set_other (e.tail j (omega arith))))

    pub emitted_more : Emitted a base q t vs (at + 2) s xs
    emitted_more =
        let long_x : length xs ≡ length ws = ap length put ∙ simp length-set in
        record {
          inside = w.inside;
          above = omega (arith, w.top);
          below = record { long = b.long ∙ e.below.long; rest = λ j l. b.rest j (omega arith) ∙ e.below.rest j l };
          within = omega arith;
          long = long_x ∙ e.long;
          is = words_next;
          tail = tail_next;
        }

    pub fewer : sizes (terms_down a s base (s.top - base)) < sizes (terms_down a r base (r.top - base))
    fewer = omega (arith, emitted_size a base q t vs (at + 2) s xs emitted_more, emitted_size a base q t vs at r ws e)

  -- as many cells as the term has letters and signs are enough
  pub cells_enough : r.top - 1 + count (inner (held a r (r.top - 1))) ≤ base + size t
  cells_enough =
      let u = held a r (r.top - 1) in
      let d = down_count a r base (r.top - 1 - base) in
      omega (
        arith,
        emitted_size a base q t vs at r ws e,
        ap sizes pending,
        size_inner u,
        count_sizes (inner u),
        count_sizes (terms_down a r base (r.top - 1 - base)),
      )

pub emitted_all : (a : Store) (base : ℕ) (q : Roots) (t : Term) (vs : List ℕ) (at : ℕ) (r : Roots) (ws : List ℕ) →
    Emitted a base q t vs at r ws →
    r.top ≤ base → (at ≡ 2 * size t) × (take at ws ≡ row t)
emitted_all a base q t vs at r ws e l =
    let z : r.top - base ≡ 0 = omega arith in
    let none : terms_down a r base (r.top - base) ≡ none1 = ap (λ (o : ℕ). terms_down a r base o) z in (
      omega (arith, emitted_size a base q t vs at r ws e, ap sizes none),
      sym (append-nil (take at ws)) ∙ ap (λ (us : Terms). take at ws ++ rows us) (sym none) ∙ e.is,
    )

-- a sign's parts come in its place
pub count_parts : (d : ℕ → Term) (p : ℕ → ℕ) (k n : ℕ) → count (parts_by d p k n) ≡ n
count_parts d p k zero = refl
count_parts d p k (suc n) = omega (arith, count_parts d p (k + 1) n)

module _ (a : Store) (q : Roots) (p f n : ℕ) (u : Roots) (e : held a q (q.top - 1) ≡ sign f (parts_in a p n))
    (cut : CutTo q (q.top - 1) u)
    (i : Inside a q) where
  pub sign_count : count (inner (held a q (q.top - 1))) ≡ n
  sign_count = ap (λ (t : Term). count (inner t)) e ∙ count_parts (λ j. term_in a j) (λ m. part_in a p m) 0 n

  pub sign_words : (vs : List ℕ) (at : ℕ) →
      set (set vs at 1) (at + 1) f ≡ set (set vs at (tag_word (held a q (q.top - 1)))) (at + 1) (number_word (held a q (q.top - 1)))
  sign_words vs at = ap (λ (t : Term). set (set vs at (tag_word t)) (at + 1) (number_word t)) (sym e)

  pub sign_below : (r : Roots) → length r.cells.now ≡ length u.cells.now → ((j : ℕ) → j < u.top → root_in r j ≡ root_in u j) →
      RootsBelow (q.top - 1) q r
  sign_below r long rest = record {
    long = long ∙ ap length cut.cells;
    rest = λ j l. rest j (omega (arith, cut.top)) ∙ ap (λ (ws : List ℕ). root_at ws j) cut.cells;
  }

  pub sign_written : (r : Roots) → PartsPushed a u p 0 n r → SymbolWritten a q r
  sign_written r h =
      let b = sign_below r h.long h.rest in
      record {
        inside = record {
          fits = h.fits;
          low = λ j l. ⊎_elim
              (λ z. h.low j z l)
              (λ z. let v = b.rest j (omega (arith, cut.top)) in let y = i.low j (omega (arith, cut.top)) in omega arith)
              (le_or_lt u.top j);
        };
        top = omega (arith, h.top, cut.top, sign_count);
        is = ap (λ (m : ℕ). terms_down a r (q.top - 1) m) sign_count ∙ ap (λ (m : ℕ). terms_down a r m n) (sym cut.top) ∙ h.is
            ∙ sym (ap inner e);
      }

-- what is written by then is a beginning of the row
begun : (a : Store) (base : ℕ) (q : Roots) (t : Term) (vs : List ℕ) (at : ℕ) (r : Roots) (ws : List ℕ) → Emitted a base q t vs at r ws →
    (xs : List ℕ) → xs ≡ ws → Begun t vs xs
begun a base q t vs at r ws e xs same = record {
  words = at;
  unwritten = rows (terms_down a r base (r.top - base));
  is = ap (λ (ys : List ℕ). take at ys ++ rows (terms_down a r base (r.top - base))) same ∙ e.is;
  tail = λ j l. ap (λ (ys : List ℕ). get_or ys j 0) same ∙ e.tail j l;
}

pub not_begun : (t : Term) (vs : List ℕ) → Begun t vs vs
not_begun t vs = record { words = 0; unwritten = row t; is = refl; tail = λ j l. refl }

-- what is wanting when it stops
pub emitted_short : (a : Store) (p : Roots) (q : Roots) (t : Term) (vs : List ℕ) (at : ℕ) (r : Roots) (ws : List ℕ) →
    Emitted a p.top q t vs at r ws → p.top < r.top → length q.cells.now ≡ length p.cells.now →
    (s : Roots) (xs : List ℕ) (x : Short) →
    SymbolOrShort a r ws at s xs (Err x) → WrittenOrShort p t vs xs (Err x)
emitted_short a p q t vs at r ws e l z s xs NoWord (same, h) =
    (begun a p.top q t vs at r ws e xs same, omega (arith, room_left a p.top q t vs at r ws e l, e.long))
emitted_short a p q t vs at r ws e l z s xs NoCell (same, h) =
    (begun a p.top q t vs at r ws e xs same, λ f. h (omega (arith, cells_enough a p.top q t vs at r ws e l, e.below.long)))
