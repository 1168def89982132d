-- Rows say at most one thing.
use Rattle.std.proofs.Common.{◌≡◌, ℕ, ◌+◌, ◌*◌, List, [], ◌∷◌, ◌++◌, length, drop, sym, refl, ap, ◌∙◌, subst, ap₂, append-nil, arith}
use Rattle.std.proofs.Common.{length-append}
use mathlib.Core.Option.{some}
use Rattle.rewriting.specs.Terms.{Term, Terms, none1, and1, glue, count, Over, AllOver, SmallLetter, AnyLetter}
use Rattle.rewriting.specs.Rules.{Eq}
use Rattle.rewriting.specs.Books.{Book, Fine}
use Rattle.books.specs.Rows.{row, rows, rowTerms, rowWays, Reads, AllFit, WaysFit}
use Rattle.books.specs.Reading.{Allowed, read, terms_of, others, paired}
use Rattle.books.specs.Reading.{book_of, parts_of, eqs_of, rules_of, body_of}
use Rattle.books.specs.Layouts.{sides, sides_of, listed}
use Rattle.books.specs.Theorems.{OneBook, TheBook, OneTerm, OneWays, OneReading}
use Rattle.books.specs.declared.words.Letters.{Letters}
use Rattle.books.specs.declared.words.Letters.TheVariants.{Small, Any}
use Rattle.books.proofs.Glueing.{glue_none, others_glue}
use Rattle.books.proofs.Reading.{read_these}
use Rattle.books.proofs.Heads.{head_of}
use Rattle.books.proofs.Sided.{terms, listed_terms, count_terms, rows_terms, glue_terms}
use Rattle.books.proofs.Sided.{length_sides, rows_both, over_sides, paired_sides}

-- terms in a row, by how many they are
pub rows_once : (l : Letters) (ps : List ℕ) (ts us : Terms) (xs ys : List ℕ) → AllOver (Allowed l) ps ts → AllOver (Allowed l) ps us →
    count ts ≡ count us → rows ts ++ xs ≡ rows us ++ ys → (ts ≡ us) × (xs ≡ ys)
rows_once l ps ts us xs ys o p c e =
    let z : some (ts, xs) ≡ some (us, ys) = sym (read_these l ps ts xs o)
    ∙ (ap₂ (read l ps) c e ∙ read_these l ps us ys p) in
    let q : (ts, xs) ≡ (us, ys) = cc in
    (ap (λ (r : Terms × List ℕ). r.0) q, ap (λ (r : Terms × List ℕ). r.1) q)

pub one_term : OneTerm
one_term ps a t u h k =
    let e : rows (and1 t none1) ++ [] ≡ rows (and1 u none1) ++ [] = simp append-nil (h.written ∙ sym k.written) in
    let q = (rows_once Small ps (and1 t none1) (and1 u none1) [] [] (h.fits, tt) (k.fits, tt) refl e).0 in
    cc

-- a book's sides, as they are read
pub sides_count : (s : List ℕ) (b : Book) → Reads s b → count (terms (sides_of b)) ≡ 2 * eqs_of s + 2 * rules_of s
sides_count s b r =
    let h = head_of s b r in
    omega (
      arith,
      h.eqs,
      h.rules,
      count_terms (sides_of b),
      length-append (sides b.eqs) (sides b.rules),
      length_sides b.eqs,
      length_sides b.rules,
    )

pub all_over_sides : (b : Book) → Fine b → AllOver SmallLetter b.parts (terms (sides_of b))
all_over_sides b f = over_sides b.parts b.eqs (sides b.rules) f.eqs
    (subst (λ (ts : List Term). AllOver SmallLetter b.parts (terms ts)) (append-nil (sides b.rules))
    (over_sides b.parts b.rules [] f.rules tt))

pub read_book_lem : (s : List ℕ) (b : Book) → Reads s b →
    read Small (parts_of s) (2 * eqs_of s + 2 * rules_of s) (drop (body_of s) s) ≡ some (terms (sides_of b), [])
read_book_lem s b r =
    let h = head_of s b r in
    let w : drop (body_of s) s ≡ rows (terms (sides_of b)) ++ [] =
    h.body ∙ (sym (rows_both b.eqs b.rules) ∙ sym (append-nil (rows (terms (sides_of b))))) in
    ap (λ (ps : List ℕ). read Small ps (2 * eqs_of s + 2 * rules_of s) (drop (body_of s) s)) h.parts
    ∙ (ap₂ (read Small b.parts) (sym (sides_count s b r)) w
    ∙ read_these Small b.parts (terms (sides_of b)) [] (all_over_sides b r.fine))

book_path : (b c : Book) → b.parts ≡ c.parts → b.ranks ≡ c.ranks → b.eqs ≡ c.eqs → b.rules ≡ c.rules → b ≡ c
book_path b c p q r s = λ i. record { parts = p i; ranks = q i; eqs = r i; rules = s i }

pub the_book : TheBook
unfolding book_of
the_book s b r =
    let h = head_of s b r in
    let e = ap terms_of (read_book_lem s b r) in
    let g : terms (sides_of b) ≡ glue (terms (sides b.eqs)) (terms (sides b.rules)) =
    glue_terms (sides b.eqs) (sides b.rules) in
    let c : 2 * eqs_of s ≡ count (terms (sides b.eqs)) =
    omega (arith, h.eqs, count_terms (sides b.eqs), length_sides b.eqs) in
    let o : others (2 * eqs_of s) (terms (sides_of b)) ≡ terms (sides b.rules) =
    ap₂ others c g ∙ others_glue (terms (sides b.eqs)) (terms (sides b.rules)) in
    book_path (book_of s) b h.parts h.ranks
    (ap (paired (eqs_of s)) (e ∙ g) ∙ (ap (λ (n : ℕ). paired n (glue (terms (sides b.eqs)) (terms (sides b.rules)))) h.eqs
    ∙ paired_sides b.eqs (terms (sides b.rules))))
    (ap (λ (ts : Terms). paired (rules_of s) (others (2 * eqs_of s) ts)) e
    ∙ (ap₂ paired h.rules o ∙ rules_paired b.rules))
  where
    rules_paired : (rs : List Eq) → paired (length rs) (terms (sides rs)) ≡ rs
    rules_paired rs = ap (paired (length rs)) (sym (glue_none (terms (sides rs)))) ∙ paired_sides rs none1

pub one_book : OneBook
one_book s b c h k = sym (the_book s b h) ∙ the_book s c k

-- ways
pub over_any : (ps : List ℕ) (ts : List Term) → AllFit ps ts → AllOver AnyLetter ps (terms ts)
over_any ps [] h = tt
over_any ps (t ∷ ts) h = (h.0, over_any ps ts h.1)

empty_not : {A : Type 0} {x : A} {xs : List A} → [] ≡ x ∷ xs → ⊥
empty_not e = let z : ◌≡◌ {A = ℕ} 0 1 = cc in omega arith

ways_once : (ps : List ℕ) (ws vs : List (List Term)) → WaysFit ps ws → WaysFit ps vs → rowWays ws ≡ rowWays vs → ws ≡ vs
ways_once ps [] [] f g e = refl
ways_once ps [] (v ∷ vs) f g e = absurd (empty_not e)
ways_once ps (w ∷ ws) [] f g e = absurd (empty_not (sym e))
ways_once ps (w ∷ ws) (v ∷ vs) f g e =
    let c : length w ≡ length v = cc in
    let d : rowTerms w ++ rowWays ws ≡ rowTerms v ++ rowWays vs = cc in
    let q = rows_once Any ps (terms w) (terms v) (rowWays ws) (rowWays vs) (over_any ps w f.0) (over_any ps v g.0)
    (count_terms w ∙ (c ∙ sym (count_terms v))) (rw (rows_terms w, rows_terms v) d) in
    let a : w ≡ v = sym (listed_terms w) ∙ (ap listed q.0 ∙ listed_terms v) in
    let b : ws ≡ vs = ways_once ps ws vs f.1 g.1 q.1 in
    cc

pub one_ways : OneWays
one_ways ps h ws vs f g e d = ways_once ps ws vs f g (e ∙ sym d)

pub one_reading_lem : OneReading
one_reading_lem = record { book = one_book; the_book = the_book; term = one_term; ways = one_ways }

-- rows that start alike are of one term
pub row_once : (ps : List ℕ) (t u : Term) (xs ys : List ℕ) → Over SmallLetter ps t → Over SmallLetter ps u →
    row t ++ xs ≡ row u ++ ys → t ≡ u
row_once ps t u xs ys o p e =
    let q = (rows_once Small ps (and1 t none1) (and1 u none1) xs ys (o, tt) (p, tt) refl (simp append-nil e)).0 in
    cc
