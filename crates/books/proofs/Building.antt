-- Words whose parts are in order are a book; words with one that isn't are none.
use Rattle.std.proofs.Common.{◌≡◌, ℕ, ◌+◌, ◌-◌, ◌*◌, ◌<◌, ◌≤◌, List, [], ◌∷◌, ◌++◌, length, get_or, take, drop, None, Option as Maybe, sym}
use Rattle.std.proofs.Common.{refl, ap, ◌∙◌, subst, ap₂, append-nil, arith, length-drop, length-take-le}
use mathlib.Core.Option.{some}
use native.Mathlib.Decide.{dec_lt}
use lib.Seq.{drop-length}
use Rattle.rewriting.specs.Terms.{nth, Term, letter, Terms, none1, and1, count, AllOver, SmallLetter}
use Rattle.rewriting.specs.Rules.{Eq}
use Rattle.rewriting.specs.Books.{Book, Fine, Differ}
use Rattle.rewriting.proofs.Glueing.{size_some}
use Rattle.books.specs.Rows.{rows, rowEs, rowB, Reads}
use Rattle.books.specs.Reading.{read, terms_of, others, paired}
use Rattle.books.specs.Reading.{book_of, signs_of, parts_of, ranks_of, eqs_of, rules_of, body_of}
use Rattle.books.specs.Layouts.{sides, sides_of, listed, Laid, FewParts, AllDiffer, HeadFine, Short, SidesAt, SidesRead, BookRead}
use Rattle.books.specs.declared.layout.Layout.{Layout}
use Rattle.books.specs.declared.words.Letters.TheVariants.{Small}
use Rattle.books.proofs.Glueing.{count_others, over_others}
use Rattle.books.proofs.Reading.{read_these}
use Rattle.books.proofs.Elements.{nth_getD, nth_below, nth_is}
use Rattle.books.proofs.Heads.{head_of, words_are}
use Rattle.books.proofs.Sided.{terms, terms_listed, count_terms, rows_both, short_sides}
use Rattle.books.proofs.Sided.{sides_paired, length_paired, listed_paired}
use Rattle.books.proofs.Siding.{short_others}
use Rattle.books.proofs.Unique.{sides_count, all_over_sides}

-- elements that differ by twos
differ_at : (xs : List ℕ) → AllDiffer xs →
    (i j x : ℕ) → nth xs i ≡ some x → nth xs j ≡ some x → i < j → ⊥
differ_at xs h i j x p q l = h i j l (nth_below xs j x q) (nth_is xs i x 0 p ∙ sym (nth_is xs j x 0 q))

differ_all : (xs : List ℕ) → AllDiffer xs → Differ xs
differ_all xs h i j x p q = aux (dec_lt i j) (dec_lt j i)
  where
    aux : Dec (i < j) → Dec (j < i) → i ≡ j
    aux (yes l) d = absurd (differ_at xs h i j x p q l)
    aux (no n) (yes l) = absurd (differ_at xs h j i x q p l)
    aux (no n) (no m) = omega arith

-- no more terms than none
none_other : (n : ℕ) (ts : Terms) → count ts ≡ n → listed (others n ts) ≡ []
none_other n ts c = empty (others n ts) (omega (arith, count_others n ts (omega arith)))
  where
    empty : (us : Terms) → count us ≡ 0 → listed us ≡ []
    empty none1 h = refl
    empty (and1 u us) h = absurd (omega (arith, h))

-- a book from its numbers and its sides
module _ (s starts : List ℕ) (hf : HeadFine s)
    (sd : SidesAt (parts_of s) s (2 * eqs_of s + 2 * rules_of s) (body_of s) (length s) starts) where
  body_rows : drop (body_of s) s ≡ rows sd.terms ++ []
  body_rows = sd.written ∙ ap (λ (v : List ℕ). rows sd.terms ++ v) (drop-length s)

  all_read : terms_of (read Small (parts_of s) (2 * eqs_of s + 2 * rules_of s) (drop (body_of s) s)) ≡ sd.terms
  all_read = ap terms_of (ap₂ (read Small (parts_of s)) (sym sd.counted) body_rows
      ∙ read_these Small (parts_of s) sd.terms [] sd.over)

  behind : Terms
  behind = others (2 * eqs_of s) sd.terms

  behind_count : count behind ≡ 2 * rules_of s
  unfolding behind
  behind_count = omega (arith, count_others (2 * eqs_of s) sd.terms (omega (arith, sd.counted)), sd.counted)

  eqs_are : (book_of s).eqs ≡ paired (eqs_of s) sd.terms
  unfolding book_of
  eqs_are = ap (paired (eqs_of s)) all_read

  rules_are : (book_of s).rules ≡ paired (rules_of s) behind
  unfolding book_of behind
  rules_are = ap (λ (ts : Terms). paired (rules_of s) (others (2 * eqs_of s) ts)) all_read

  pub sides_are : sides_of (book_of s) ≡ listed sd.terms
  unfolding behind
  sides_are =
      ap₂ (λ (es rs : List Eq). sides es ++ sides rs) eqs_are rules_are
      ∙ (ap (λ (ts : List Term). sides (paired (eqs_of s) sd.terms) ++ ts) rules_listed
      ∙ listed_paired (eqs_of s) sd.terms (omega (arith, sd.counted)))
    where
      rules_listed : sides (paired (rules_of s) behind) ≡ listed behind
      rules_listed = sym (append-nil (sides (paired (rules_of s) behind)))
          ∙ (ap (λ (ts : List Term). sides (paired (rules_of s) behind) ++ ts) (sym (none_other (2 * rules_of s) behind behind_count))
          ∙ listed_paired (rules_of s) behind (omega (arith, behind_count)))

  body_is : rowEs (book_of s).eqs ++ rowEs (book_of s).rules ≡ drop (body_of s) s
  body_is = sym (rows_both (book_of s).eqs (book_of s).rules) ∙ (ap (λ (ts : List Term). rows (terms ts)) sides_are
      ∙ (ap rows (terms_listed sd.terms) ∙ (sym (append-nil (rows sd.terms)) ∙ sym body_rows)))

  parts_length : length (parts_of s) ≡ signs_of s
  parts_length = length-take-le (signs_of s) (drop 1 s) (omega (arith, length-drop 1 s, hf.long))

  ranks_length : length (ranks_of s) ≡ signs_of s
  ranks_length = length-take-le (signs_of s) (drop (1 + signs_of s) s) (omega (arith, length-drop (1 + signs_of s) s, hf.long))

  eqs_length : length (book_of s).eqs ≡ eqs_of s
  eqs_length = ap length eqs_are ∙ length_paired (eqs_of s) sd.terms (omega (arith, sd.counted))

  rules_length : length (book_of s).rules ≡ rules_of s
  rules_length = ap length rules_are ∙ length_paired (rules_of s) behind (omega (arith, behind_count))

  is_row : rowB (book_of s) ≡ s
  unfolding book_of
  is_row =
      ap₂ (λ (n : ℕ) (v : List ℕ). n ∷ (parts_of s ++ (ranks_of s ++ v))) parts_length
      (ap₂ (λ (e : ℕ) (v : List ℕ). e ∷ v) eqs_length (ap₂ (λ (r : ℕ) (v : List ℕ). r ∷ v) rules_length body_is))
      ∙ sym (words_are s hf.long)

  is_fine : Fine (book_of s)
  unfolding book_of behind
  is_fine = record {
    some_sign = rw parts_length hf.some_sign;
    few_signs = rw parts_length hf.few_signs;
    few_parts = λ f n e. subst (λ (k : ℕ). k ≤ 4) (nth_is (parts_of s) f n 0 e) (hf.few_parts f (nth_below (parts_of s) f n e));
    ranked = ranks_length ∙ sym parts_length;
    differ = differ_all (ranks_of s) hf.differ;
    few_eqs = rw eqs_length hf.few_eqs;
    few_rules = rw rules_length hf.few_rules;
    eqs = rw eqs_are (sides_paired (parts_of s) (eqs_of s) sd.terms sd.over sd.short);
    rules = rw rules_are (sides_paired (parts_of s) (rules_of s) behind
        (over_others SmallLetter (parts_of s) (2 * eqs_of s) sd.terms sd.over)
        (short_others (2 * eqs_of s) sd.terms sd.short));
  }

  pub is_book : Reads s (book_of s)
  is_book = record { is = is_row; fine = is_fine }

  how_many : length (listed sd.terms) ≡ 2 * eqs_of s + 2 * rules_of s
  how_many = sym (count_terms (listed sd.terms)) ∙ (ap count (terms_listed sd.terms) ∙ sd.counted)

  -- each left side of a rule has its first symbol in the words
  pub start_within : (i : ℕ) → i < rules_of s → get_or starts (2 * (eqs_of s + i)) 0 + 2 ≤ length s
  start_within i h =
      let j : ℕ = 2 * (eqs_of s + i) in
      let t : Term = get_or (listed sd.terms) j (letter 0) in
      let a = sd.each j t (nth_getD (listed sd.terms) j (letter 0) (omega (arith, how_many))) in
      omega (arith, a.long, a.within, size_some t)

  pub is_laid : (l : Layout) → l.signs ≡ signs_of s → l.equations ≡ eqs_of s → l.rules ≡ rules_of s → l.starts ≡ starts →
      ((i : ℕ) → 2 * eqs_of s + 2 * rules_of s < i → get_or starts i 0 ≡ 0) → Laid s (book_of s) l
  unfolding book_of
  is_laid l p q r e zeros = record {
    signs = p ∙ sym parts_length;
    equations = q ∙ sym eqs_length;
    rules = r ∙ sym rules_length;
    at = λ i t k. rw e (sd.each i t (subst (λ (ts : List Term). nth ts i ≡ some t) sides_are k));
    behind = λ i h. rw e (zeros i (omega (arith, h, ap length sides_are, how_many)));
  }

-- the sides, in the numbers that a program has
pub sides_here : (s : List ℕ) (k e q : ℕ) (r : Maybe (List ℕ)) → k ≡ signs_of s → e ≡ eqs_of s → q ≡ rules_of s →
    SidesRead (take (1 + k - 1) (drop 1 s)) s (2 * e + 2 * q) (3 + 2 * k) r →
    SidesRead (parts_of s) s (2 * eqs_of s + 2 * rules_of s) (body_of s) r
sides_here s k e q r a b c h =
    let d : 1 + k - 1 ≡ signs_of s = omega arith in
    let n : 2 * e + 2 * q ≡ 2 * eqs_of s + 2 * rules_of s = omega arith in
    subst (λ (j : ℕ). SidesRead (take j (drop 1 s)) s (2 * eqs_of s + 2 * rules_of s) (body_of s) r) d
    (subst (λ (j : ℕ). SidesRead (take (1 + k - 1) (drop 1 s)) s j (body_of s) r) n
    (subst (λ (j : ℕ). SidesRead (take (1 + k - 1) (drop 1 s)) s (2 * e + 2 * q) (3 + 2 * j) r) a h))

-- what the row of a book has; ps and ks are its parts and ranks, as a program has them
pub book_parts : (s : List ℕ) (b : Book) → Reads s b → (ps : List ℕ) → ps ≡ parts_of s → FewParts ps
book_parts s b r ps e f l =
    let k = ap (λ (qs : List ℕ). nth qs f) (sym (e ∙ (head_of s b r).parts)) ∙ nth_getD ps f 0 l in
    r.fine.few_parts f (get_or ps f 0) k

pub book_ranks : (s : List ℕ) (b : Book) → Reads s b → (ks : List ℕ) → ks ≡ ranks_of s → AllDiffer ks
book_ranks s b r ks q i j l h e =
    let d = ap (λ (qs : List ℕ). nth qs j) (sym (q ∙ (head_of s b r).ranks)) ∙ nth_getD ks j 0 h in
    let m = ap (λ (qs : List ℕ). nth qs i) (sym (q ∙ (head_of s b r).ranks)) ∙ (nth_getD ks i 0 (omega arith) ∙ ap some e) in
    omega (arith, r.fine.differ i j (get_or ks j 0) m d)

pub other_sides : (s : List ℕ) → SidesRead (parts_of s) s (2 * eqs_of s + 2 * rules_of s) (body_of s) None → BookRead s None
other_sides s h b r =
    let d = head_of s b r in
    h (terms (sides_of b)) (sides_count s b r)
    (subst (λ (ps : List ℕ). AllOver SmallLetter ps (terms (sides_of b))) (sym d.parts) (all_over_sides b r.fine))
    (short_sides b.parts b.eqs (sides b.rules) r.fine.eqs (short_rules b r.fine))
    (rows_both b.eqs b.rules ∙ sym d.body)
  where
    short_rules : (b : Book) → Fine b → Short (terms (sides b.rules))
    short_rules b f = subst (λ (ts : List Term). Short (terms ts)) (append-nil (sides b.rules))
        (short_sides b.parts b.rules [] f.rules tt)
