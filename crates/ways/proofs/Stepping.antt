-- What the search for a step keeps: two terms that stand for the first two, or the parts of a term that are still to be looked at.
use Rattle.std.proofs.Common.{◌≡◌, ℕ, suc, ◌+◌, ◌-◌, ◌<◌, ◌≤◌, Bool, true, false, ◌⊎◌, List, length, None, Ok, Err, Result, sym, refl, ap}
use Rattle.std.proofs.Common.{◌∙◌, subst, subst₂, inl, inr, arith}
use Rattle.std.specs.Result.{IsOk}
use borrow.Author.Tests.{clash}
use Rattle.rewriting.specs.Answers.{Tells}
use Rattle.rewriting.specs.Terms.{Term, letter, sign, Terms, none1, and1, glue, count, size, sizes, AllOver, AnyLetter, Fits}
use Rattle.rewriting.specs.Rules.{itself, in_this, in_later}
use Rattle.rewriting.specs.Ways.{One}
use Rattle.rewriting.proofs.Glueing.{count_sizes, sizes_glue}
use Rattle.books.specs.declared.row.Book.{Book}
use Rattle.books.specs.Books.{told}
use Rattle.books.proofs.Glueing.{over_glue}
use Rattle.store.specs.declared.types.Store.{Store}
use Rattle.store.specs.declared.types.Roots.{Roots}
use Rattle.store.specs.declared.types.Place.{Place}
use Rattle.store.specs.declared.types.Full.{Full}
use Rattle.store.specs.Roots.{HasRoots}
use Rattle.store.specs.Stacks.{root_in, CutTo}
use Rattle.store.specs.Stores.{term_in, part_in, parts_in, held, terms_down, Inside}
use Rattle.store.specs.Transfers.{inner, PartsOrFull, RootsBelow}
use Rattle.store.proofs.Sounds.{sound_in}
use Rattle.store.proofs.Emitting.{down_join, size_inner, sign_count, sign_below, sign_written}
use Rattle.store.proofs.Forests.{down_same, down_count}
use Rattle.store.proofs.Telling.{one_place}
use Rattle.ways.specs.Steps.{Equated, DifferAt, differ_first, differ_later, DifferIn, OnlyDifference, Itself, Itselves}
use Rattle.ways.specs.Steps.{Comparable, Expanded, Walkable}
use Rattle.ways.specs.declared.walk.Walk.{Walk}
use Rattle.ways.specs.Walks.{OnlyRoots}
use Rattle.ways.proofs.Onestep.{Inner, one_cases, one_top, one_up, inner_one, inner_apart, one_itself, itself_one, selves_on, selves_back}

-- the step that is looked for is one between the terms at p and q
pub record Narrowed (k : Book) (st : Store) (p0 q0 p q : Place) : Type 0 where
  pub can : Comparable k st p q
  pub apart : p.0 ≡ q.0 → ⊥
  pub down : One (told k).eqs (term_in st p0.0) (term_in st q0.0) → One (told k).eqs (term_in st p.0) (term_in st q.0)
  pub up : One (told k).eqs (term_in st p.0) (term_in st q.0) → One (told k).eqs (term_in st p0.0) (term_in st q0.0)

differ_fits : {v w : Term} {ts us : Terms} (ps : List ℕ) → DifferAt v w ts us → AllOver AnyLetter ps ts → AllOver AnyLetter ps us →
    Fits ps v × Fits ps w
differ_fits ps (differ_first n) x y = (x.0, y.0)
differ_fits ps (differ_later d) x y = differ_fits ps d x.1 y.1

module _ (k : Book) (st : Store) (p0 q0 p q : Place) (n : Narrowed k st p0 q0 p q) where
  different_terms : term_in st p.0 ≡ term_in st q.0 → ⊥
  different_terms e = n.apart (one_place st.words.now st.count _ _ (sound_in st).shared n.can.left n.can.right e)

  pub found_top : Equated (told k).eqs (term_in st p.0) (term_in st q.0) →
      Tells true (One (told k).eqs (term_in st p0.0) (term_in st q0.0))
  found_top h = record { holds = λ z. n.up (one_top h); fails = λ z. absurd (clash (sym z)) }

  module _ (none_here : Equated (told k).eqs (term_in st p.0) (term_in st q.0) → ⊥) where
    pub none_found : OnlyDifference st p q None → Tells false (One (told k).eqs (term_in st p0.0) (term_in st q0.0))
    none_found h = record {
      holds = λ z. absurd (clash z);
      fails = λ z o. elim (one_cases (n.down o) different_terms) [
        | inl e ↦ none_here e
        | inr m ↦ h m.2.symbol m.2.left_parts m.2.right_parts m.0 m.1 m.2.left m.2.right m.2.differ
      ];
    }

    module _ (i : ℕ) (d : DifferIn st p q i) (x y : Place) (ex : x.0 ≡ part_in st p.0 i) (ey : y.0 ≡ part_in st q.0 i) where
      tx : term_in st (part_in st p.0 i) ≡ term_in st x.0
      tx = ap (λ (j : ℕ). term_in st j) (sym ex)

      ty : term_in st (part_in st q.0 i) ≡ term_in st y.0
      ty = ap (λ (j : ℕ). term_in st j) (sym ey)

      abbrev inner_at : Inner (term_in st p.0) (term_in st q.0) (term_in st x.0) (term_in st y.0)
      inner_at = record {
        symbol = d.symbol;
        left_parts = d.left_parts;
        right_parts = d.right_parts;
        left = d.left;
        right = d.right;
        differ = subst₂ (λ (v w : Term). DifferAt v w d.left_parts d.right_parts) tx ty d.differ;
      }

      fits_both : Fits (told k).parts (term_in st x.0) × Fits (told k).parts (term_in st y.0)
      fits_both =
          let l : Fits (told k).parts (sign d.symbol d.left_parts) = subst (Fits (told k).parts) d.left n.can.left_fits in
          let r : Fits (told k).parts (sign d.symbol d.right_parts) = subst (Fits (told k).parts) d.right n.can.right_fits in
          differ_fits (told k).parts inner_at.differ l.1 r.1

      pub narrowed_more : x.0 < p.0 → y.0 < q.0 → Narrowed k st p0 q0 x y
      narrowed_more lx ly = record {
        can = record {
          left = omega (arith, n.can.left);
          right = omega (arith, n.can.right);
          left_fits = fits_both.0;
          right_fits = fits_both.1;
        };
        apart = λ e. inner_apart inner_at.differ (ap (λ (j : ℕ). term_in st j) e);
        down = λ o. inside (one_cases (n.down o) different_terms);
        up = λ o. n.up (one_up inner_at o);
      }
        where
          inside : Equated (told k).eqs (term_in st p.0) (term_in st q.0)
              ⊎ ((v w : Term) × Inner (term_in st p.0) (term_in st q.0) v w × One (told k).eqs v w) →
              One (told k).eqs (term_in st x.0) (term_in st y.0)
          inside (inl e) = absurd (none_here e)
          inside (inr (v, w, m, o)) =
              let e = inner_one m inner_at in subst₂ (One (told k).eqs) e.0 e.1 o

-- the parts of a sign come in its place
module _ (a : Store) (q u : Roots) (cut : CutTo q (q.top - 1) u) (i : Inside a q) (some : 0 < q.top) where
  pub sign_expanded : (p f n : ℕ) → held a q (q.top - 1) ≡ sign f (parts_in a p n) →
      HasRoots q.cells.now (q.top - 1 + count (inner (held a q (q.top - 1)))) →
      (r : Roots) (x : Result (Unit {0}) Full) → PartsOrFull a u p n r x → IsOk x × Expanded a q r
  sign_expanded p f n e enough r (Ok x) h =
      (refl, record { written = sign_written a q p f n u e cut i r h; below = sign_below a q p f n u e cut i r h.long h.rest })
  sign_expanded p f n e enough r (Err x) h =
      absurd (h.2 (omega (arith, sign_count a q p f n u e cut i, ap length cut.cells, cut.top)))

-- the parts that are still to be looked at are held by the roots from base on
pub record Walking (k : Book) (st : Store) (base : ℕ) (q r : Roots) : Type 0 where
  pub inside : Inside st r
  pub above : base ≤ r.top
  pub below : RootsBelow base q r
  pub fits : AllOver AnyLetter (told k).parts (terms_down st r base (r.top - base))
  pub small : sizes (terms_down st r base (r.top - base)) ≤ size (held st q base)
  pub to : Itself (told k).eqs (held st q base) → Itselves (told k).eqs (terms_down st r base (r.top - base))
  pub back : Itselves (told k).eqs (terms_down st r base (r.top - base)) → Itself (told k).eqs (held st q base)

pub walking_start : (k : Book) (st : Store) (q : Roots) → Walkable k st q → Walking k st (q.top - 1) q q
walking_start k st q w = record {
  inside = w.inside;
  above = omega arith;
  below = record { long = refl; rest = λ j l. refl };
  fits = subst (AllOver AnyLetter (told k).parts) (sym one) (w.fits, tt);
  small = omega (arith, ap sizes one);
  to = λ h. subst (Itselves (told k).eqs) (sym one) (h.0, in_this h.1, h.2);
  back = λ h. last (subst (Itselves (told k).eqs) one h);
}
  where
    one : terms_down st q (q.top - 1) (q.top - (q.top - 1)) ≡ and1 (held st q (q.top - 1)) none1
    one =
        let z : q.top - (q.top - 1) ≡ 1 = omega (arith, w.some) in
        let y : q.top - 1 + 0 ≡ q.top - 1 = omega arith in
        ap (λ (n : ℕ). terms_down st q (q.top - 1) n) z ∙ ap (λ (n : ℕ). and1 (held st q n) none1) y

    last : Itselves (told k).eqs (and1 (held st q (q.top - 1)) none1) → Itself (told k).eqs (held st q (q.top - 1))
    last (v, in_this p, h) = (v, p, h)
    last (v, in_later p, h) = elim p [ ]

-- one term more is looked at
module _ (k : Book) (st : Store) (base : ℕ) (q r : Roots) (w : Walking k st base q r) (more : base < r.top) where
  abbrev others : Terms
  others = terms_down st r base (r.top - 1 - base)

  abbrev next_term : Term
  next_term = held st r (r.top - 1)

  pending : terms_down st r base (r.top - base) ≡ and1 next_term others
  pending =
      let z : r.top - base ≡ suc (r.top - 1 - base) = omega arith in
      let y : base + (r.top - 1 - base) ≡ r.top - 1 = omega arith in
      ap (λ (n : ℕ). terms_down st r base n) z ∙ ap (λ (n : ℕ). and1 (held st r n) others) y

  both_fit : AllOver AnyLetter (told k).parts (and1 next_term others)
  both_fit = subst (AllOver AnyLetter (told k).parts) pending w.fits

  pub walk_can : (p : Place) → p.0 ≡ root_in r (r.top - 1) → Comparable k st p p
  walk_can p e =
      let low : p.0 < st.count = omega (arith, w.inside.low (r.top - 1) (omega arith)) in
      let fits : Fits (told k).parts (term_in st p.0) =
      subst (λ (j : ℕ). Fits (told k).parts (term_in st j)) (sym e) both_fit.0 in
      record { left = low; right = low; left_fits = fits; right_fits = fits }

  pub walk_found : Equated (told k).eqs next_term next_term → One (told k).eqs (held st q base) (held st q base)
  walk_found h = itself_one (w.back (subst (Itselves (told k).eqs) (sym pending) (next_term, in_this itself, h)))

  pub walk_cells : HasRoots q.cells.now (base + size (held st q base)) →
      HasRoots r.cells.now (r.top - 1 + count (inner next_term))
  walk_cells h = omega (
    arith,
    w.below.long,
    w.small,
    ap sizes pending,
    size_inner next_term,
    count_sizes (inner next_term),
    count_sizes others,
    down_count st r base (r.top - 1 - base),
  )

  module _ (s : Roots) (x : Expanded st r s) where
    pending_next : terms_down st s base (s.top - base) ≡ glue (inner next_term) others
    pending_next =
        let n = count (inner next_term) in
        let z : s.top - base ≡ r.top - 1 - base + n = omega (arith, x.written.top) in
        let y : base + (r.top - 1 - base) ≡ r.top - 1 = omega arith in
        ap (λ (o : ℕ). terms_down st s base o) z ∙ down_join st s base (r.top - 1 - base) n
        ∙ ap (λ (us : Terms). glue us (terms_down st s base (r.top - 1 - base))) (ap (λ (o : ℕ). terms_down st s o n) y ∙ x.written.is)
        ∙ ap (glue (inner next_term)) (down_same st st r s base (r.top - 1 - base)
        (λ j l. ap (λ (o : ℕ). term_in st o) (x.below.rest j (omega arith))))

    pub walk_less : sizes (terms_down st s base (s.top - base)) < sizes (terms_down st r base (r.top - base))
    walk_less = omega (arith, ap sizes pending, ap sizes pending_next, size_inner next_term, sizes_glue (inner next_term) others)

    pub walking_more : (Equated (told k).eqs next_term next_term → ⊥) → Walking k st base q s
    walking_more none_here = record {
      inside = x.written.inside;
      above = omega (arith, x.written.top);
      below = record { long = x.below.long ∙ w.below.long; rest = λ j l. x.below.rest j (omega arith) ∙ w.below.rest j l };
      fits = subst (AllOver AnyLetter (told k).parts) (sym pending_next)
          (over_glue AnyLetter (told k).parts (inner next_term) others (inner_fits next_term both_fit.0) both_fit.1);
      small = omega (arith, walk_less, w.small);
      to = λ h. subst (Itselves (told k).eqs) (sym pending_next)
          (selves_on (told k).eqs next_term others none_here (subst (Itselves (told k).eqs) pending (w.to h)));
      back = λ h. w.back (subst (Itselves (told k).eqs) (sym pending)
          (selves_back (told k).eqs next_term others (subst (Itselves (told k).eqs) pending_next h)));
    }
      where
        inner_fits : (t : Term) → Fits (told k).parts t → AllOver AnyLetter (told k).parts (inner t)
        inner_fits (letter y) h = tt
        inner_fits (sign f ts) h = h.1

-- nothing is left to be looked at
pub walk_none : (k : Book) (st : Store) (base : ℕ) (q r : Roots) → Walking k st base q r → r.top ≤ base →
    One (told k).eqs (held st q base) (held st q base) → ⊥
walk_none k st base q r w l o =
    let z : r.top - base ≡ 0 = omega arith in
    let e : terms_down st r base (r.top - base) ≡ none1 = ap (λ (n : ℕ). terms_down st r base n) z in
    let h : Itselves (told k).eqs none1 = subst (Itselves (told k).eqs) e (w.to (one_itself o refl)) in
    elim h.1 [ ]

-- a walk whose book and store are the same
pub only_same : (w : Walk) → OnlyRoots w w
only_same w = record { book = refl; ways = refl; store = refl; store_lent = refl; roots_lent = refl }

module _ (w v : Walk) (only : OnlyRoots w v) where
  pub only_then : (u : Walk) → OnlyRoots v u → OnlyRoots w u
  only_then u o = record {
    book = o.book ∙ only.book;
    ways = o.ways ∙ only.ways;
    store = o.store ∙ only.store;
    store_lent = o.store_lent ∙ only.store_lent;
    roots_lent = o.roots_lent ∙ only.roots_lent;
  }

  pub comparable_on : (p q : Place) → Comparable w.book.now w.store.now p q → Comparable v.book.now v.store.now p q
  comparable_on p q = subst₂ (λ (k : Book) (st : Store). Comparable k st p q) (sym only.book) (sym only.store)

  pub equated_on : (p q : Place) (x : Bool) →
      Tells x (Equated (told v.book.now).eqs (term_in v.store.now p.0) (term_in v.store.now q.0)) →
      Tells x (Equated (told w.book.now).eqs (term_in w.store.now p.0) (term_in w.store.now q.0))
  equated_on p q x =
      subst₂ (λ (k : Book) (st : Store). Tells x (Equated (told k).eqs (term_in st p.0) (term_in st q.0))) only.book only.store

  pub expanded_on : (q r : Roots) → Expanded v.store.now q r → Expanded w.store.now q r
  expanded_on q r = subst (λ (st : Store). Expanded st q r) only.store
