-- A way followed term by term.
use Rattle.std.proofs.Common.{◌≡◌, ℕ, ◌+◌, ◌-◌, ◌*◌, get_or, ◌<◌, ◌≤◌, Bool, true, false, List, [], ◌∷◌, ◌++◌, length, drop, Some, None}
use Rattle.std.proofs.Common.{Option}
use Rattle.std.proofs.Common.{sym, refl, ap, ◌∙◌, subst, subst₂, append_assoc, append-nil, arith}
use Rattle.rewriting.specs.Answers.{Tells}
use Rattle.rewriting.specs.Terms.{Term, none1, and1, size, sizes, Fits, SmallLetter}
use Rattle.rewriting.specs.Rules.{Eq}
use Rattle.rewriting.specs.Ways.{One, Way}
use Rattle.rewriting.proofs.Signature.{over_fits}
use Rattle.books.specs.declared.row.Book.{Book}
use Rattle.books.specs.declared.words.Letters.TheVariants.{Any}
use Rattle.books.specs.Books.{told, sound_book_in, rule_in, RuleAt}
use Rattle.books.specs.Layouts.{FewParts}
use Rattle.books.specs.Reading.{TermAt}
use Rattle.books.specs.Rows.{row, rowTerms}
use Rattle.books.proofs.Bookish.{rule_at, rule_sides}
use Rattle.books.proofs.Glueing.{row_length}
use Rattle.books.proofs.Building.{book_parts}
use Rattle.books.proofs.Heads.{head_of}
use Rattle.books.proofs.Unique.{rows_once}
use Rattle.store.specs.declared.types.Store.{Store}
use Rattle.store.specs.declared.types.Roots.{Roots}
use Rattle.store.specs.Stacks.{CutTo}
use Rattle.store.specs.Making.{Stacked}
use Rattle.store.specs.Transfers.{RowOf}
use Rattle.std.specs.Bool.{then_some}
use Rattle.store.specs.Stores.{held, terms_down}
use Rattle.store.proofs.Sounds.{sound_in}
use Rattle.store.proofs.Placing.{carried_then, carried_grown, grown_same}
use Rattle.ways.specs.Steps.{StepTold}
use Rattle.ways.specs.Showing.{WentOn, TermNext, NextTold, TermsNext, Followed, WayTold}
use Rattle.ways.specs.Walks.{Kept, OnlyRoots, UnderWay}
use Rattle.ways.specs.declared.walk.Walk.{Walk}

-- the signature by its words
pub few_parts : (k : Book) (ps : List ℕ) → ps ≡ (told k).parts → FewParts ps
few_parts k ps e =
    let s = sound_book_in k in book_parts k.words.now (told k) s.reads ps (e ∙ sym (head_of k.words.now (told k) s.reads).parts)

-- going on
pub went_same : (st : Store) (q : Roots) → WentOn st q st q
went_same st q = record { sound = sound_in st; room = refl; cells = refl; carried = carried_grown st st (grown_same st) }

pub kept_same : (w : Walk) → Kept w w
kept_same w =
    record { book = refl; ways = refl; store_lent = refl; roots_lent = refl; went = went_same w.store.now w.roots.now }

pub kept_then : (w v u : Walk) → Kept w v → Kept v u → Kept w u
kept_then w v u g h = record {
  book = h.book ∙ g.book;
  ways = h.ways ∙ g.ways;
  store_lent = h.store_lent ∙ g.store_lent;
  roots_lent = h.roots_lent ∙ g.roots_lent;
  went = record {
    sound = h.went.sound;
    room = h.went.room ∙ g.went.room;
    cells = h.went.cells ∙ g.went.cells;
    carried = carried_then w.store.now v.store.now u.store.now g.went.carried h.went.carried;
  };
}

pub kept_only : (w v : Walk) → OnlyRoots w v → length v.roots.now.cells.now ≡ length w.roots.now.cells.now → Kept w v
kept_only w v o long = record {
  book = o.book;
  ways = o.ways;
  store_lent = o.store_lent;
  roots_lent = o.roots_lent;
  went = subst (λ (st : Store). WentOn w.store.now w.roots.now st v.roots.now) (sym o.store)
      (record {
        sound = sound_in w.store.now;
        room = refl;
        cells = long;
        carried = carried_grown w.store.now w.store.now (grown_same w.store.now);
      });
}

-- the only root's size
one_size : (st : Store) (q : Roots) → q.top ≡ 1 → sizes (terms_down st q 0 q.top) ≡ size (held st q 0)
one_size st q e =
    let d : sizes (terms_down st q 0 q.top) ≡ size (held st q (0 + 0)) + 0 = ap (λ (n : ℕ). sizes (terms_down st q 0 n)) e in
    let z : size (held st q (0 + 0)) ≡ size (held st q 0) = refl in
    omega arith

-- the roots are taken away first
pub kept_cut : (w : Walk) (q : Roots) → CutTo w.roots.now 0 q → (v : Walk) → v.book.now ≡ w.book.now → v.ways.now ≡ w.ways.now →
    v.store.ghost_name ≡ w.store.ghost_name → v.roots.ghost_name ≡ w.roots.ghost_name →
    WentOn w.store.now q v.store.now v.roots.now → Kept w v
kept_cut w q cut v b h s r g = record {
  book = b;
  ways = h;
  store_lent = s;
  roots_lent = r;
  went = record { sound = g.sound; room = g.room; cells = g.cells ∙ ap length cut.cells; carried = g.carried };
}

-- a term at a place of the ways is the one that stands there
term_unique : (k : Book) (h : List ℕ) (a z : ℕ) (t v : Term) (rest : List ℕ) → Fits (told k).parts t → TermAt h a z t →
    TermNext k h a v rest → (t ≡ v) × (drop z h ≡ rest)
term_unique k h a z t v rest fits at n =
    let q = rows_once Any (told k).parts (and1 t none1) (and1 v none1) (drop z h) rest (fits, tt) (n.fits, tt) refl
    (simp append-nil (sym at.written ∙ n.written)) in
    let e = q.0 in
    (cc, q.1)

-- what is told of a walk's book and ways is told of those that it began with
module _ (w v : Walk) (kept : Kept w v) where
  pub next_on : (a : ℕ) (t u : Term) (x : Option ℕ) → NextTold v.book.now v.ways.now a t u x → NextTold w.book.now w.ways.now a t u x
  next_on a t u x = subst₂ (λ (k : Book) (h : List ℕ). NextTold k h a t u x) kept.book kept.ways

  pub followed_on : (a n : ℕ) (t u : Term) (x : Option ℕ) → Followed v.book.now v.ways.now a n t u x →
      Followed w.book.now w.ways.now a n t u x
  followed_on a n t u x = subst₂ (λ (k : Book) (h : List ℕ). Followed k h a n t u x) kept.book kept.ways

  pub way_on : (a i : ℕ) (x : Option ℕ) → WayTold v.book.now v.ways.now (a + 1) (get_or v.ways.now a 0) (rule_in v.book.now i) x →
      WayTold w.book.now w.ways.now (a + 1) (get_or w.ways.now a 0) (rule_in w.book.now i) x
  way_on a i x = subst₂ (λ (k : Book) (h : List ℕ). WayTold k h (a + 1) (get_or h a 0) (rule_in k i) x) kept.book kept.ways

  pub rule_on : (i : ℕ) → i < length (told w.book.now).rules → i < length (told v.book.now).rules
  rule_on i = subst (λ (k : Book). i < length (told k).rules) (sym kept.book)

  pub right_on : (i : ℕ) (t : Term) (y : Bool) → Tells y (t ≡ (rule_in v.book.now i).right) → Tells y (t ≡ (rule_in w.book.now i).right)
  right_on i t y = subst (λ (k : Book). Tells y (t ≡ (rule_in k i).right)) kept.book

-- the next term is read
module _ (w : Walk) (u : UnderWay w) (a z : ℕ) (t : Term) (fits : Fits (told w.book.now).parts t) (at : TermAt w.ways.now a z t)
    (v : Walk) (kept : Kept w v) (read : Stacked w.store.now w.roots.now w.roots.now.top t v.store.now v.roots.now) where
  first_is : held v.store.now v.roots.now 0 ≡ held w.store.now w.roots.now 0
  first_is = read.terms 0 (omega (arith, u.one))

  second_is : held v.store.now v.roots.now 1 ≡ t
  second_is = ap (λ (n : ℕ). held v.store.now v.roots.now n) (sym u.one) ∙ read.term

  module _ (x : Walk) (only : OnlyRoots v x) (y : Bool) (step : StepTold v.book.now v.store.now v.roots.now x.roots.now y) where
    pub kept_next : Kept w x
    kept_next = kept_then w v x kept (kept_only v x only step.long)

    held_next : held x.store.now x.roots.now 0 ≡ t
    held_next = ap (λ (st : Store). held st x.roots.now 0) only.store ∙ (step.term ∙ second_is)

    tells : Tells y (One (told w.book.now).eqs (held w.store.now w.roots.now 0) t)
    tells = subst (λ (k : Book). Tells y (One (told k).eqs (held w.store.now w.roots.now 0) t)) kept.book
        (subst₂ (λ (s1 s2 : Term). Tells y (One (told v.book.now).eqs s1 s2)) first_is second_is step.result)

    pub next_told : NextTold w.book.now w.ways.now a (held w.store.now w.roots.now 0) (held x.store.now x.roots.now 0) (then_some y z)
    next_told = go y tells
      where
        go : (b : Bool) → Tells b (One (told w.book.now).eqs (held w.store.now w.roots.now 0) t) →
            NextTold w.book.now w.ways.now a (held w.store.now w.roots.now 0) (held x.store.now x.roots.now 0) (then_some b z)
        go true m = λ s rest n.
            let o = term_unique w.book.now w.ways.now a z t s rest fits at n in
            (subst (One (told w.book.now).eqs (held w.store.now w.roots.now 0)) o.0 (m.holds refl), held_next ∙ o.0, o.1)
        go false m = λ s rest n p.
            let o = term_unique w.book.now w.ways.now a z t s rest fits at n in
            m.fails refl (subst (One (told w.book.now).eqs (held w.store.now w.roots.now 0)) (sym o.0) p)

-- of the terms w what is left: the m terms at place b, which are a way from u exactly if w is one from t
pub record LeftOver (k : Book) (h : List ℕ) (b m : ℕ) (t u : Term) (w : List Term) (rest : List ℕ) : Type 0 where
  pub vs : List Term
  pub next : TermsNext k h b m vs rest
  pub to : (v : Term) → Way (told k).parts (told k).eqs t w v → Way (told k).parts (told k).eqs u vs v
  pub back : (v : Term) → Way (told k).parts (told k).eqs u vs v → Way (told k).parts (told k).eqs t w v

abbrev pub Follows : Book → List ℕ → ℕ → ℕ → Term → ℕ → ℕ → Term → Type 0
Follows k h a n t b m u = (w : List Term) (rest : List ℕ) → TermsNext k h a n w rest → LeftOver k h b m t u w rest

pub follows_start : (k : Book) (h : List ℕ) (a n : ℕ) (t : Term) → Follows k h a n t a n t
follows_start k h a n t w rest x = record { vs = w; next = x; to = λ v p. p; back = λ v p. p }

module _ (k : Book) (h : List ℕ) (a n : ℕ) (t : Term) (b m : ℕ) (u : Term) (f : Follows k h a n t b m u) where
  -- the first of the terms that are left
  first_next : (v : Term) (vs : List Term) (rest : List ℕ) → TermsNext k h b m (v ∷ vs) rest → TermNext k h b v (rowTerms vs ++ rest)
  first_next v vs rest x = record { fits = x.fit.0; written = x.written ∙ append_assoc (row v) (rowTerms vs) rest }

  pub follows_more : (z : ℕ) (u2 : Term) → 0 < m → NextTold k h b u u2 (Some z) → Follows k h a n t z (m - 1) u2
  follows_more z u2 l e w rest x = go (f w rest x).vs (f w rest x).next (f w rest x).to (f w rest x).back
    where
      go : (vs : List Term) → TermsNext k h b m vs rest →
          ((v : Term) → Way (told k).parts (told k).eqs t w v → Way (told k).parts (told k).eqs u vs v) →
          ((v : Term) → Way (told k).parts (told k).eqs u vs v → Way (told k).parts (told k).eqs t w v) →
          LeftOver k h z (m - 1) t u2 w rest
      go [] y to back = absurd (omega (arith, y.many))
      go (v ∷ vs) y to back =
          let (o, is, d) = e v (rowTerms vs ++ rest) (first_next v vs rest y) in
          record {
            vs = vs;
            next = record { many = omega (arith, y.many); fit = y.fit.1; written = d };
            to = λ p g. subst (λ (c : Term). Way (told k).parts (told k).eqs c vs p) (sym is) (to p g).2;
            back = λ p g. back p (y.fit.0, o, subst (λ (c : Term). Way (told k).parts (told k).eqs c vs p) is g);
          }

  pub follows_stop : (u2 : Term) → 0 < m → NextTold k h b u u2 None → (u3 : Term) → Followed k h a n t u3 None
  follows_stop u2 l e u3 w rest x v g = go (f w rest x).vs (f w rest x).next ((f w rest x).to v g)
    where
      go : (vs : List Term) → TermsNext k h b m vs rest → Way (told k).parts (told k).eqs u vs v → ⊥
      go [] y p = omega (arith, y.many)
      go (c ∷ vs) y p = e c (rowTerms vs ++ rest) (first_next c vs rest y) p.1

-- a way has one end
way_ends : (ps : List ℕ) (es : List Eq) (t : Term) (w : List Term) (u v : Term) → Way ps es t w u → Way ps es t w v → u ≡ v
way_ends ps es t [] u v p q = sym p ∙ q
way_ends ps es t (x ∷ w) u v p q = way_ends ps es x w u v p.2 q.2

-- the sides of a rule
module _ (k : Book) (i : ℕ) (low : i < length (told k).rules) (ws : List ℕ) where
  abbrev side : ℕ → ℕ
  side j = get_or k.layout.starts (2 * (k.layout.equations + i) + j) 0

  stands : RuleAt k i (get_or k.layout.starts (2 * (k.layout.equations + i)) 0) (side 1) (side 2)
  stands = rule_at k (sound_book_in k) i low _ _ _ refl refl refl

  pub left_row : ws ≡ row (rule_in k i).left → RowOf (told k).parts ws (rule_in k i).left
  left_row e =
      let sides = rule_sides k (sound_book_in k) i low in
      record { written = sym e; fits = over_fits (told k).parts SmallLetter (rule_in k i).left sides.left }

  pub right_row : ws ≡ row (rule_in k i).right → RowOf (told k).parts ws (rule_in k i).right
  right_row e =
      let sides = rule_sides k (sound_book_in k) i low in
      record { written = sym e; fits = over_fits (told k).parts SmallLetter (rule_in k i).right sides.right }

  pub left_short : ws ≡ row (rule_in k i).left → length ws ≤ length k.words.now
  left_short e = omega (arith, ap length e, row_length (rule_in k i).left, stands.left.long, stands.left.within)

-- the left side of a rule is read
module _ (w : Walk) (i : ℕ) (low : i < length (told w.book.now).rules) (q : Roots) (none_yet : q.top ≡ 0)
    (v : Walk) (kept : Kept w v) (read : Stacked w.store.now q q.top (rule_in w.book.now i).left v.store.now v.roots.now) where
  pub left_is : held v.store.now v.roots.now 0 ≡ (rule_in w.book.now i).left
  left_is = ap (λ (n : ℕ). held v.store.now v.roots.now n) (sym none_yet) ∙ read.term

  pub under_first : UnderWay v
  under_first =
      let here = left_row w.book.now i low _ refl in record {
        inside = read.inside;
        one = omega (arith, read.top);
        fits = subst₂ (λ (k : Book) (s : Term). Fits (told k).parts s) (sym kept.book) (sym left_is) here.fits;
        small = omega (
          arith,
          ap size left_is,
          left_short w.book.now i low _ refl,
          row_length (rule_in w.book.now i).left,
          ap (λ (k : Book). length k.words.now) kept.book,
        );
      }

-- from the left side t of a rule to its right side
module _ (k : Book) (h : List ℕ) (i : ℕ) (t : Term) (left_is : t ≡ (rule_in k i).left) (from1 n : ℕ) (u : Term) where
  pub way_told : (e : ℕ) → Followed k h from1 n t u (Some e) → (y : Bool) → Tells y (u ≡ (rule_in k i).right) →
      WayTold k h from1 n (rule_in k i) (then_some y e)
  way_told e f true same = λ s rest x.
      let g = f s rest x in
      (subst₂ (λ (t1 t2 : Term). Way (told k).parts (told k).eqs t1 s t2) left_is (same.holds refl) g.0, g.1)
  way_told e f false same = λ s rest x p.
      let b = subst (λ (t2 : Term). Way (told k).parts (told k).eqs t2 s (rule_in k i).right) (sym left_is) p in
      same.fails refl (way_ends (told k).parts (told k).eqs t s _ _ (f s rest x).0 b)
