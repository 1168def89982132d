-- Rules tried at the top of a term: where the top sign of a left side stands, and what the rules that failed say together.
use Rattle.std.proofs.Common.{◌≡◌, ℕ, zero, suc, ◌-◌, ◌<◌, List, length, get_or, ◌≢◌, Some, None, Option as Maybe}
use Rattle.std.proofs.Common.{◌+◌, below_more, sym, refl, ap, ◌∙◌, subst, arith}
use native.Mathlib.Decide.{dec_lt}
use mathlib.Core.Option.{some}
use Rattle.rewriting.specs.Terms.{nth, count, Term, letter, sign, Terms, none1, and1, put, puts, SmallLetter, Fits}
use Rattle.rewriting.specs.Rules.{Eq}
use Rattle.rewriting.specs.Order.{Rank, rank, Greater, by_part, by_sign, by_order}
use Rattle.rewriting.specs.Machine.{Still, StillBefore}
use Rattle.rewriting.proofs.Ordering.{greater_letters}
use Rattle.rewriting.proofs.Signature.{over_fits, over_letters}
use Rattle.books.specs.Rows.{row}
use Rattle.books.specs.Indexing.{top_number, rule_top, FirstFrom}
use Rattle.books.proofs.Elements.{nth_below, nth_is}
use Rattle.store.specs.declared.types.Store.{Store}
use Rattle.store.specs.declared.types.Place.{Place}
use Rattle.store.specs.declared.types.Node.TheVariants.{Sign}
use Rattle.store.specs.Stores.{term_in, part_in, parts_in, Shows}
use Rattle.books.specs.declared.row.Book.{Book}
use Rattle.engine.specs.declared.types.Bindings.{Bindings}
use Rattle.books.specs.Books.{told, blank, rule_in, sound_book_in}
use Rattle.engine.specs.Matching.{put_in, Instance, Pattern}
use Rattle.engine.specs.Building.{AllBound, Fillable, RowInstanceBuilt}
use Rattle.engine.specs.Rewriting.{Rewritable, FirstPartsApart, LowestRule, ByRule}
use Rattle.books.proofs.Bookish.{is_rule, rule_sides}

-- the greater term is no letter
pub greater_sign : {rk : Rank} {t u : Term} → Greater rk t u → (g : ℕ) × (ts : Terms) × (t ≡ sign g ts)
greater_sign (by_part {f = f} {ts = ts} h) = (f, ts, refl)
greater_sign (by_sign {f = f} {ts = ts} l h) = (f, ts, refl)
greater_sign (by_order {f = f} {ts = ts} o h) = (f, ts, refl)

-- a left side with another sign in its first part than the term at a place does not match it
module _ (st : Store) (p : Place) (f : ℕ) (ws : List ℕ) (apart : FirstPartsApart ws st p) (s : ℕ → Term) where
  no_match : (n : ℕ) → 0 < n → term_in st p.0 ≡ sign f (parts_in st p.0 n) → (t : Term) (us : Terms) → ws ≡ row (sign f (and1 t us)) →
      sign f (and1 (put s t) (puts s us)) ≢ term_in st p.0
  no_match zero l e t us w d = omega arith
  no_match (suc n) l e (letter x) us w d = omega (arith, apart.is_sign, ap (λ (vs : List ℕ). get_or vs 2 0) w)
  no_match (suc n) l e (sign g vs) us w d =
      let both : sign f (and1 (sign g (puts s vs)) (puts s us)) ≡ sign f (parts_in st p.0 (suc n)) = d ∙ e in
      let part : sign g (puts s vs) ≡ term_in st (part_in st p.0 0) = cc in
      let told : get_or ws 3 0 ≡ g = ap (λ (xs : List ℕ). get_or xs 3 0) w in
      apart.other (puts s vs) (sym part ∙ ap (λ (h : ℕ). sign h (puts s vs)) (sym told))

  pub parts_apart : (n : ℕ) → 0 < n → Shows st p.0 (Sign f n) → (ts : Terms) → ws ≡ row (sign f ts) → put s (sign f ts) ≢ term_in st p.0
  parts_apart n l h none1 w d = omega (arith, apart.long, ap length w)
  parts_apart n l h (and1 t us) w d = no_match n l h.2 t us w d

-- a rule's sides in the words: the left one is a pattern, and the right one can be built from its row
module _ (k : Book) (i : ℕ) (low : i < length (told k).rules) where
  pub left_pattern : (ws : List ℕ) (st : Store) (p : Place) → ws ≡ row (rule_in k i).left →
      Fits (told k).parts (term_in st p.0) → Pattern (told k).parts ws (rule_in k i).left st p
  left_pattern ws st p w f =
      let sides = rule_sides k (sound_book_in k) i low in
      record { over = sides.left; written = w; short = sides.left_size; fits = f }

  pub right_fillable : (ps ws : List ℕ) (b : Bindings) → ps ≡ (told k).parts → ws ≡ row (rule_in k i).right →
      AllBound b (rule_in k i).right → Fillable ps ws b (rule_in k i).right
  right_fillable ps ws b e w m =
      let sides = rule_sides k (sound_book_in k) i low in
      record {
        row = record {
          written = sym w;
          fits = subst (λ (qs : List ℕ). Fits qs (rule_in k i).right) (sym e)
              (over_fits (told k).parts SmallLetter (rule_in k i).right sides.right);
        };
        small = sides.right_size;
        low = λ x h. let l = over_letters (told k).parts SmallLetter (rule_in k i).right sides.right x h in omega arith;
        bound = m;
      }

module _ (k : Book) (st : Store) (p : Place) (can : Rewritable k st p) where
  module _ (i : ℕ) (low : i < length (told k).rules) where
    goes_down : Greater (rank (told k).ranks) (rule_in k i).left (rule_in k i).right
    goes_down = can.down i (rule_in k i) (is_rule k (sound_book_in k) i low)

    -- the sign at the top of its left side
    top_told : (ts : Terms) × ((rule_in k i).left ≡ sign (rule_top (told k) i) ts)
    top_told =
        let (g, ts, e) = greater_sign goes_down in
        (ts, e ∙ ap (λ (f : ℕ). sign f ts) (sym (ap top_number e)))

    -- with another sign at the top it does not match
    pub other_sign : (f : ℕ) (us : Terms) → term_in st p.0 ≡ sign f us → rule_top (told k) i ≢ f →
        (s : ℕ → Term) → put s (rule_in k i).left ≢ term_in st p.0
    other_sign f us h ne s d =
        let (ts, e) = top_told in
        let x : sign (rule_top (told k) i) (puts s ts) ≡ sign f us = sym (ap (put s) e) ∙ d ∙ h in
        ne (cc)

    -- nor with another sign in the first part
    pub other_part : (n : ℕ) → 0 < n → Shows st p.0 (Sign (rule_top (told k) i) n) → (ws : List ℕ) → ws ≡ row (rule_in k i).left →
        FirstPartsApart ws st p → (s : ℕ → Term) → put s (rule_in k i).left ≢ term_in st p.0
    other_part n l h ws w x s d =
        let (ts, e) = top_told in
        parts_apart st p (rule_top (told k) i) ws x s n l h ts (w ∙ ap row e) (sym (ap (put s) e) ∙ d)

    pub no_letter : (x : ℕ) → term_in st p.0 ≡ letter x → (s : ℕ → Term) → put s (rule_in k i).left ≡ term_in st p.0 → ⊥
    no_letter x e s d =
        let (g, ts, h) = greater_sign goes_down in
        let y : sign g (puts s ts) ≡ letter x = sym (ap (put s) h) ∙ d ∙ e in
        let z : ◌≡◌ {A = ℕ} 0 1 = cc in
        omega arith

    -- the letters of the right side are bound with those of the left
    pub right_bound : (b : Bindings) → Instance st b (rule_in k i).left (term_in st p.0) → AllBound b (rule_in k i).right
    right_bound b m x h = m.letters x (greater_letters (rank (told k).ranks) goes_down x h)

    pub by_this_rule : (b : Bindings) (su : Store) (q : Place) → LowestRule k st p b i →
        RowInstanceBuilt st b (rule_in k i).right su q → ByRule (told k).rules (term_in st p.0) su q
    by_this_rule b su q found h = record {
      index = i;
      rule = rule_in k i;
      filling = put_in st b;
      has = is_rule k (sound_book_in k) i low;
      left = found.fits.is;
      first = found.first;
      right = h.is;
      inside = h.inside;
    }

  -- no rule matches; and none before rule n does
  pub still : ((i : ℕ) → i < length (told k).rules → (s : ℕ → Term) → put s (rule_in k i).left ≡ term_in st p.0 → ⊥) →
      Still (told k).rules (term_in st p.0)
  still h i r e s d =
      h i (nth_below (told k).rules i r e) s (ap (λ (x : Eq). put s x.left) (nth_is (told k).rules i r blank e) ∙ d)

  pub still_before : (n : ℕ) → ((i : ℕ) → i < n → (s : ℕ → Term) → put s (rule_in k i).left ≢ term_in st p.0) →
      StillBefore (told k).rules n (term_in st p.0)
  still_before n h i r l e s d = h i l s (ap (λ (x : Eq). put s x.left) (nth_is (told k).rules i r blank e) ∙ d)

-- how many rules are left from the next one on
abbrev pub left_from : ℕ → Maybe ℕ → ℕ
left_from n None = 0
left_from n (Some i) = suc (n - i)

left_falls : (t : ℕ → ℕ) (n i f : ℕ) (o : Maybe ℕ) → i < n → FirstFrom t n (i + 1) f o → left_from n o < left_from n (Some i)
left_falls t n i f None low h = omega arith
left_falls t n i f (Some j) low h = omega (arith, h.0, h.1)

module _ (k : Book) (st : Store) (p : Place) where
  abbrev pub Fails : ℕ → Type 0
  Fails i = (s : ℕ → Term) → put s (rule_in k i).left ≢ term_in st p.0

  -- the rules with the sign f were tried up to the next one
  abbrev pub Tried : ℕ → Maybe ℕ → Type 0
  Tried f (Some i) = (i < length (told k).rules) × (rule_top (told k) i ≡ f) × ((j : ℕ) → j < i → Fails j)
  Tried f None = (j : ℕ) → j < length (told k).rules → Fails j

  module _ (can : Rewritable k st p) (f n : ℕ) (shows : Shows st p.0 (Sign f n)) where
    pub sign_low : f < 32
    sign_low =
        let x : nth (told k).parts f ≡ some (count (parts_in st p.0 n)) = (subst (Fits (told k).parts) shows.2 can.fits).0 in
        omega (arith, nth_below (told k).parts f _ x, k.reads.fine.few_signs)

    -- those before a number fail, and so do those up to the first one with the sign from there on
    next_tried : (a : ℕ) (o : Maybe ℕ) → ((j : ℕ) → j < a → j < length (told k).rules → Fails j) →
        FirstFrom (rule_top (told k)) (length (told k).rules) a f o → Tried f o
    next_tried a None h x = λ j l. aux j l (dec_lt j a)
      where
        aux : (j : ℕ) → j < length (told k).rules → Dec (j < a) → Fails j
        aux j l (yes b) = h j b l
        aux j l (no b) = other_sign k st p can j l f (parts_in st p.0 n) shows.2 (x j (omega arith) l)
    next_tried a (Some i) h x = (x.1, x.2, λ j l. aux j l (dec_lt j a))
      where
        aux : (j : ℕ) → j < i → Dec (j < a) → Fails j
        aux j l (yes b) = h j b (omega (arith, x.1))
        aux j l (no b) = other_sign k st p can j (omega (arith, x.1)) f (parts_in st p.0 n) shows.2 (x.3 j (omega arith) l)

    -- from none on, and from rule i on, which fails
    pub first_tried : (o : Maybe ℕ) → o ≡ get_or k.index.first f None → Tried f o
    first_tried o e = subst (Tried f) (sym e) (next_tried 0 _ (λ j l. absurd (omega arith)) (k.indexed.first f sign_low))

    module _ (i : ℕ) (tried : Tried f (Some i)) (o : Maybe ℕ) (e : o ≡ get_or k.index.next i None) where
      next_from : FirstFrom (rule_top (told k)) (length (told k).rules) (i + 1) f o
      next_from = subst (FirstFrom (rule_top (told k)) (length (told k).rules) (i + 1) f) (sym e)
          (subst (λ (g : ℕ). FirstFrom (rule_top (told k)) (length (told k).rules) (i + 1) g (get_or k.index.next i None)) tried.1
          (k.indexed.next i (omega arith) tried.0 (omega (arith, sign_low, tried.1))))

      pub more_tried : Fails i → Tried f o
      more_tried h = next_tried (i + 1) o (λ j l b. below_more Fails i tried.2 h j l) next_from

      pub fewer_left : (m : ℕ) → m ≡ length (told k).rules → left_from m o < left_from m (Some i)
      fewer_left m d = subst (λ (x : ℕ). left_from x o < left_from x (Some i)) (sym d)
          (left_falls (rule_top (told k)) (length (told k).rules) i f o tried.0 next_from)
