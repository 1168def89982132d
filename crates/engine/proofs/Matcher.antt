-- Matching symbol by symbol: what each turn keeps, and why it stops.
use Rattle.std.proofs.Common.{◌≡◌, ℕ, zero, suc, ◌+◌, ◌*◌, ◌<◌, ◌≤◌, Bool, true, false, ◌≢◌, ◌⊎◌, List, [], ◌∷◌, ◌++◌, length, get_or, drop}
use Rattle.std.proofs.Common.{set, replicate, Some, None, Option as Maybe, sym, refl, ap, ◌∙◌, subst, ap₂, inl, inr, append-nil, arith}
use Rattle.std.proofs.Common.{length-drop, length-set, get_or-drop, get_or-set_other, get_or-set_same, drop-drop}
use Rattle.std.proofs.lemmas.List.{nil_from_length}
use Rattle.std.specs.Option.{option_to_list}
use mathlib.Core.Option.{some}
use native.Mathlib.Decide.{ℕ_discrete}
use Rattle.rewriting.specs.Terms.{Term, letter, sign, Terms, none1, and1, glue, count, sizes}
use Rattle.rewriting.specs.Terms.{put, puts, Ins, is, part, here, there}
use Rattle.rewriting.specs.Terms.{Over, AllOver, SmallLetter, AnyLetter}
use Rattle.books.specs.Rows.{row, rows}
use Rattle.books.specs.Reading.{tag, number, SymbolAt}
use Rattle.books.specs.declared.words.Symbol.{Symbol}
use Rattle.books.specs.declared.words.Symbol.TheVariants.{Letter, Sign}
use Rattle.books.proofs.Glueing.{over_glue, row_length}
use Rattle.rewriting.proofs.Glueing.{count_glue, count_sizes, size_some, puts_glue, glue_apart}
use Rattle.rewriting.proofs.Replacing.{count_puts}
use Rattle.books.proofs.Forests.{opened, behind_sizes, behind_rows, behind_over}
use Rattle.store.specs.declared.types.Store.{Store}
use Rattle.store.specs.declared.types.Place.{Place}
use Rattle.store.specs.Stores.{term_in}
use Rattle.engine.specs.declared.types.Bindings.{Bindings}
use Rattle.engine.specs.Matching.{bound, Agrees, term_or, put_in, AllInside, Bound, BoundNow, nothing}
use Rattle.engine.specs.Matching.{Instance, Extended, MatchedOn, Pattern}
use Rattle.engine.specs.Matching.{stacked, PlacesInside, Pushed, PartsPending}
use Rattle.engine.specs.Matching.{MatchingWith, Matching, Turned}
use Rattle.engine.proofs.Pendings.{one_more, stacked_more, inside_below, inside_last}

-- letters in terms behind terms
ins_glue : {x : ℕ} (us vs : Terms) → Ins x us ⊎ Ins x vs → Ins x (glue us vs)
ins_glue none1 vs (inl i) = elim i [ ]
ins_glue none1 vs (inr i) = i
ins_glue (and1 u us) vs (inl (here i)) = here i
ins_glue (and1 u us) vs (inl (there i)) = there (ins_glue us vs (inl i))
ins_glue (and1 u us) vs (inr i) = there (ins_glue us vs (inr i))

-- a binding that is new
module _ (st : Store) (b c : Bindings) (x : ℕ) (p : Place) (low : x < length b.at) (fresh : bound b x ≡ None)
    (e : c.at ≡ set b.at x (Some p)) where
  bound_here : bound c x ≡ Some p
  bound_here = ap (λ (v : List (Maybe Place)). get_or v x None) e ∙ get_or-set_same b.at x (Some p) None low

  bound_other : (y : ℕ) → y ≢ x → bound c y ≡ bound b y
  bound_other y ne = ap (λ (v : List (Maybe Place)). get_or v y None) e ∙ get_or-set_other b.at x y (Some p) None ne

  none_some : {q : Place} → ◌≡◌ {A = Maybe Place} None (Some q) → ⊥
  none_some k = let z : ◌≡◌ {A = ℕ} 0 1 = cc in omega arith

  agrees_old : (s : ℕ → Term) → Agrees st c s → Agrees st b s
  agrees_old s h y q k = aux (ℕ_discrete y x)
    where
      aux : Dec (y ≡ x) → s y ≡ term_in st q.0
      aux (yes d) = absurd (none_some (sym fresh ∙ (ap (bound b) (sym d) ∙ k)))
      aux (no n) = h y q (bound_other y n ∙ k)

  agrees_new : (s : ℕ → Term) → Agrees st b s → s x ≡ term_in st p.0 → Agrees st c s
  agrees_new s h d y q k = aux (ℕ_discrete y x)
    where
      aux : Dec (y ≡ x) → s y ≡ term_in st q.0
      aux (yes f) =
          let g : Some q ≡ Some p = sym k ∙ (ap (bound c) f ∙ bound_here) in
          let i : q ≡ p = cc in
          ap s f ∙ (d ∙ ap (λ (r : Place). term_in st r.0) (sym i))
      aux (no n) = h y q (sym (bound_other y n) ∙ k)

  still_bound : (y : ℕ) → Bound b y → Bound c y
  still_bound y (q, k) = aux (ℕ_discrete y x)
    where
      aux : Dec (y ≡ x) → Bound c y
      aux (yes d) = (p, ap (bound c) d ∙ bound_here)
      aux (no n) = (q, bound_other y n ∙ k)

  inside_new : AllInside st b → p.0 < st.count → AllInside st c
  inside_new h l y q k = aux (ℕ_discrete y x)
    where
      aux : Dec (y ≡ x) → q.0 < st.count
      aux (yes d) =
          let g : Some q ≡ Some p = sym k ∙ (ap (bound c) d ∙ bound_here) in
          let i : p ≡ q = cc in
          subst (λ (r : Place). r.0 < st.count) i l
      aux (no n) = h y q (sym (bound_other y n) ∙ k)

-- the two words of a term's first symbol
abbrev first_symbol : Term → Symbol
first_symbol (letter x) = Letter x
first_symbol (sign f us) = Sign f

module _ (ps ws : List ℕ) (b0 : Bindings) (l t : Term) (st : Store) (a : ℕ) (q : List Place) (b : Bindings) where
  -- the words of the first pattern, and those behind them
  words_first : (u : Term) (us : Terms) → MatchingWith ps ws b0 l t st a q b (and1 u us) →
      drop a ws ≡ tag (first_symbol u) ∷ number (first_symbol u) ∷ rows (opened u us)
  words_first (letter x) us m = m.written
  words_first (sign f vs) us m =
      m.written ∙ ap (λ (v : List ℕ). 1 ∷ f ∷ v) (sym (behind_rows (and1 (sign f vs) us)))

  here_symbol : (u : Term) (us : Terms) → MatchingWith ps ws b0 l t st a q b (and1 u us) → SymbolAt ws a (Some (first_symbol u))
  here_symbol u us m =
      let e = words_first u us m in
      let z : a + 0 ≡ a = omega arith in (
        omega (arith, ap length e, length-drop a ws),
        ap (λ (k : ℕ). get_or ws k 0) (sym z) ∙ (sym (get_or-drop a ws 0 0) ∙ ap (λ (v : List ℕ). get_or v 0 0) e),
        sym (get_or-drop a ws 1 0) ∙ ap (λ (v : List ℕ). get_or v 1 0) e,
      )

  -- before the end there is a symbol
  pub no_turn : a < length ws → SymbolAt ws a None → Matching ps ws b0 l t st a q b → ⊥
  no_turn more y (none1, m) = omega (arith, m.long, more)
  no_turn more y (and1 (letter z) us, m) = let h = here_symbol (letter z) us m in omega (arith, y h.0, h.1)
  no_turn more y (and1 (sign g vs) us, m) = let h = here_symbol (sign g vs) us m in omega (arith, y h.0, h.1)

  words_next : (u : Term) (us : Terms) → MatchingWith ps ws b0 l t st a q b (and1 u us) →
      drop (a + 2) ws ≡ rows (opened u us)
  words_next u us m = sym (drop-drop 2 a ws) ∙ ap (drop 2) (words_first u us m)

  long_next : (u : Term) (us : Terms) → MatchingWith ps ws b0 l t st a q b (and1 u us) → a + 2 + 2 * sizes (opened u us) ≡ length ws
  long_next u us m = omega (arith, m.long, behind_sizes (and1 u us) (omega (arith, size_some u)))

  over_next : (u : Term) (us : Terms) → MatchingWith ps ws b0 l t st a q b (and1 u us) → AllOver SmallLetter ps (opened u us)
  over_next u us m = behind_over SmallLetter ps (and1 u us) m.over

  module _ (p : Place) (r : List Place) (pop : q ≡ r ++ p ∷ [])
      (one_place : (i j : ℕ) → i < st.count → j < st.count → term_in st i ≡ term_in st j → i ≡ j) where
    -- the next pending term, and the others
    longer : length q ≡ length r + 1
    longer = ap length pop ∙ one_more r p

    pending_first : stacked st q ≡ and1 (term_in st p.0) (stacked st r)
    pending_first = ap (stacked st) pop ∙ stacked_more st r p

    pending_inside : (us : Terms) → MatchingWith ps ws b0 l t st a q b us → PlacesInside st r
    pending_inside us m = inside_below st r (p ∷ []) (subst (PlacesInside st) pop m.inside)

    place_inside : (us : Terms) → MatchingWith ps ws b0 l t st a q b us → p.0 < st.count
    place_inside us m = inside_last st r p (subst (PlacesInside st) pop m.inside)

    both_fit : (us : Terms) → MatchingWith ps ws b0 l t st a q b us →
        AllOver AnyLetter ps (and1 (term_in st p.0) (stacked st r))
    both_fit us m = subst (AllOver AnyLetter ps) pending_first m.fit

    -- what is put makes the first pattern the next term, and the others the other terms
    first_is : (s : ℕ → Term) (u : Term) (us : Terms) → puts s (and1 u us) ≡ stacked st q →
        (put s u ≡ term_in st p.0) × (puts s us ≡ stacked st r)
    first_is s u us e =
        let d : and1 (put s u) (puts s us) ≡ and1 (term_in st p.0) (stacked st r) = e ∙ pending_first in
        (cc, cc)

    first_of : (s : ℕ → Term) (u : Term) (us : Terms) → put s u ≡ term_in st p.0 → puts s us ≡ stacked st r →
        puts s (and1 u us) ≡ stacked st q
    first_of s u us d e = ap₂ and1 d e ∙ sym pending_first

    -- a letter
    same_place : (x : ℕ) (us : Terms) → MatchingWith ps ws b0 l t st a q b (and1 (letter x) us) → bound b x ≡ Some p →
        MatchingWith ps ws b0 l t st (a + 2) r b us
    same_place x us m k = record {
      over = m.over.1;
      written = words_next (letter x) us m;
      long = long_next (letter x) us m;
      counted = omega (arith, m.counted, longer);
      inside = pending_inside (and1 (letter x) us) m;
      fit = (both_fit (and1 (letter x) us) m).1;
      full = m.full;
      bound_inside = m.bound_inside;
      enough = λ s h e. m.enough s h (first_of s (letter x) us (h x p k) e);
      needed = λ s g0 e. (let n = m.needed s g0 e in (n.0, (first_is s (letter x) us n.1).1));
      letters = λ y i. seen y (m.letters y i);
    }
      where
        seen : (y : ℕ) → Bound b y ⊎ Ins y (and1 (letter x) us) → Bound b y ⊎ Ins y us
        seen y (inl h) = inl h
        seen y (inr (here is)) = inl (p, k)
        seen y (inr (there i)) = inr i

    new_place : (x : ℕ) (us : Terms) (c : Bindings) → MatchingWith ps ws b0 l t st a q b (and1 (letter x) us) → x < 32 →
        bound b x ≡ None → c.at ≡ set b.at x (Some p) → MatchingWith ps ws b0 l t st (a + 2) r c us
    new_place x us c m low k e =
        let below : x < length b.at = omega (arith, m.full) in
        record {
          over = m.over.1;
          written = words_next (letter x) us m;
          long = long_next (letter x) us m;
          counted = omega (arith, m.counted, longer);
          inside = pending_inside (and1 (letter x) us) m;
          fit = (both_fit (and1 (letter x) us) m).1;
          full = ap length e ∙ (length-set b.at x (Some p) ∙ m.full);
          bound_inside = inside_new st b c x p below k e m.bound_inside (place_inside (and1 (letter x) us) m);
          enough = λ s h f. m.enough s (agrees_old st b c x p below k e s h)
              (first_of s (letter x) us (h x p (bound_here st b c x p below k e)) f);
          needed = λ s g0 f. (let n = m.needed s g0 f in let d = first_is s (letter x) us n.1 in
              (agrees_new st b c x p below k e s n.0 d.0, d.1));
          letters = λ y i. seen y (m.letters y i);
        }
      where
        below1 : x < length b.at
        below1 = omega (arith, m.full)

        seen : (y : ℕ) → Bound b y ⊎ Ins y (and1 (letter x) us) → Bound c y ⊎ Ins y us
        seen y (inl h) = inl (still_bound st b c x p below1 k e y h)
        seen y (inr (here is)) = inl (p, bound_here st b c x p below1 k e)
        seen y (inr (there i)) = inr i

    -- a sign
    same_count : (f : ℕ) (vs us ts : Terms) → MatchingWith ps ws b0 l t st a q b (and1 (sign f vs) us) → term_in st p.0 ≡ sign f ts →
        count vs ≡ count ts
    same_count f vs us ts m e =
        let h : Over AnyLetter ps (sign f ts) = subst (Over AnyLetter ps) e (both_fit (and1 (sign f vs) us) m).0 in
        let d : some (count vs) ≡ some (count ts) = sym m.over.0.0 ∙ h.0 in
        cc

    parts_next : (f : ℕ) (vs us ts : Terms) (r2 : List Place) → MatchingWith ps ws b0 l t st a q b (and1 (sign f vs) us) →
        term_in st p.0 ≡ sign f ts → Pushed st r ts r2 → MatchingWith ps ws b0 l t st (a + 2) r2 b (glue vs us)
    parts_next f vs us ts r2 m e d = record {
      over = over_next (sign f vs) us m;
      written = words_next (sign f vs) us m;
      long = long_next (sign f vs) us m;
      counted = omega (arith, m.counted, longer, d.len, count_glue vs us, counts);
      inside = d.inside;
      fit = subst (AllOver AnyLetter ps) (sym d.terms)
          (over_glue AnyLetter ps ts (stacked st r) fit_parts.1 (both_fit (and1 (sign f vs) us) m).1);
      full = m.full;
      bound_inside = m.bound_inside;
      enough = λ s h g. (let k = split s g in m.enough s h (first_of s (sign f vs) us (ap (sign f) k.0 ∙ sym e) k.1));
      needed = λ s g0 g. (let n = m.needed s g0 g in let k = first_is s (sign f vs) us n.1 in (n.0, join s k.0 k.1));
      letters = λ y i. seen y (m.letters y i);
    }
      where
        counts : count vs ≡ count ts
        counts = same_count f vs us ts m e

        fit_parts : Over AnyLetter ps (sign f ts)
        fit_parts = subst (Over AnyLetter ps) e (both_fit (and1 (sign f vs) us) m).0

        split : (s : ℕ → Term) → puts s (glue vs us) ≡ stacked st r2 →
            (puts s vs ≡ ts) × (puts s us ≡ stacked st r)
        split s g = glue_apart (puts s vs) ts (puts s us) (stacked st r) (count_puts s vs ∙ counts)
            (sym (puts_glue s vs us) ∙ (g ∙ d.terms))

        join : (s : ℕ → Term) → put s (sign f vs) ≡ term_in st p.0 → puts s us ≡ stacked st r →
            puts s (glue vs us) ≡ stacked st r2
        join s g h =
            let k : sign f (puts s vs) ≡ sign f ts = g ∙ e in
            let i : puts s vs ≡ ts = cc in
            puts_glue s vs us ∙ (ap₂ glue i h ∙ sym d.terms)

        seen : (y : ℕ) → Bound b y ⊎ Ins y (and1 (sign f vs) us) → Bound b y ⊎ Ins y (glue vs us)
        seen y (inl h) = inl h
        seen y (inr (here (part i))) = inr (ins_glue vs us (inl i))
        seen y (inr (there i)) = inr (ins_glue vs us (inr i))

    no_patterns : MatchingWith ps ws b0 l t st a q b none1 → ⊥
    no_patterns m = omega (arith, m.counted, longer)

    -- a turn at a letter
    letter_with : (x : ℕ) (c : Bindings) → x < 32 → (res : Bool) → BoundNow b x p c res → (us : Terms) →
        MatchingWith ps ws b0 l t st a q b (and1 (letter x) us) → Turned ps ws b0 l t st (a + 2) r c res
    letter_with x c low true (inl (k, e)) us m =
        (us, subst (λ (d : Bindings). MatchingWith ps ws b0 l t st (a + 2) r d us) (sym e) (same_place x us m k))
    letter_with x c low true (inr (k, e)) us m = (us, new_place x us c m low k e)
    letter_with x c low false (o, k, ne) us m = λ s g0 e.
        let n = m.needed s g0 e in
        let d : term_in st o.0 ≡ term_in st p.0 = sym (n.0 x o k) ∙ (first_is s (letter x) us n.1).0 in
        ne (one_place o.0 p.0 (m.bound_inside x o k) (place_inside (and1 (letter x) us) m) d)

    -- a turn at a sign
    sign_with : (f : ℕ) (r2 : List Place) (res : Bool) → PartsPending st p f r r2 res → (vs us : Terms) →
        MatchingWith ps ws b0 l t st a q b (and1 (sign f vs) us) → Turned ps ws b0 l t st (a + 2) r2 b res
    sign_with f r2 true (ts, e, d) vs us m = (glue vs us, parts_next f vs us ts r2 m e d)
    sign_with f r2 false none_there vs us m = λ s g0 e.
        none_there (puts s vs) (sym (first_is s (sign f vs) us (m.needed s g0 e).1).0)

    zero_one : ◌≡◌ {A = ℕ} 0 1 → ⊥
    zero_one e = omega arith

    pub letter_turn : (x : ℕ) → SymbolAt ws a (Some (Letter x)) → (c : Bindings) → x < 32 → (res : Bool) → BoundNow b x p c res →
        Matching ps ws b0 l t st a q b → Turned ps ws b0 l t st (a + 2) r c res
    letter_turn x y c low res h (none1, m) = absurd (no_patterns m)
    letter_turn x y c low res h (and1 (letter z) us, m) =
        let e : z ≡ x = sym (here_symbol (letter z) us m).2 ∙ y.2 in
        letter_with x c low res h us (subst (λ (k : ℕ). MatchingWith ps ws b0 l t st a q b (and1 (letter k) us)) e m)
    letter_turn x y c low res h (and1 (sign g vs) us, m) = absurd (zero_one (sym y.1 ∙ (here_symbol (sign g vs) us m).1))

    pub large_letter : (x : ℕ) → SymbolAt ws a (Some (Letter x)) → 32 ≤ x → Matching ps ws b0 l t st a q b → ⊥
    large_letter x y high (none1, m) = no_patterns m
    large_letter x y high (and1 (letter z) us, m) =
        omega (arith, m.over.0, (here_symbol (letter z) us m).2, y.2)
    large_letter x y high (and1 (sign g vs) us, m) = zero_one (sym y.1 ∙ (here_symbol (sign g vs) us m).1)

    pub sign_turn : (f : ℕ) → SymbolAt ws a (Some (Sign f)) → (r2 : List Place) (res : Bool) → PartsPending st p f r r2 res →
        Matching ps ws b0 l t st a q b → Turned ps ws b0 l t st (a + 2) r2 b res
    sign_turn f y r2 res h (none1, m) = absurd (no_patterns m)
    sign_turn f y r2 res h (and1 (letter z) us, m) = absurd (zero_one (sym (here_symbol (letter z) us m).1 ∙ y.1))
    sign_turn f y r2 res h (and1 (sign g vs) us, m) =
        let e : g ≡ f = sym (here_symbol (sign g vs) us m).2 ∙ y.2 in
        sign_with f r2 res h vs us (subst (λ (k : ℕ). MatchingWith ps ws b0 l t st a q b (and1 (sign k vs) us)) e m)

-- the next place, and those below it
pub next_place : (q r : List Place) (o : Maybe Place) (p : Place) → q ≡ r ++ option_to_list o → o ≡ Some p → q ≡ r ++ p ∷ []
next_place q r o p h e = h ∙ ap (λ (x : Maybe Place). r ++ option_to_list x) e

-- nothing is bound at first
none_bound : {A : Type 0} (d : A) (n x : ℕ) → get_or (replicate n d) x d ≡ d
none_bound d zero x = refl
none_bound d (suc n) zero = refl
none_bound d (suc n) (suc x) = none_bound d n x

pub unbound : (x : ℕ) (r : Place) → bound nothing x ≡ Some r → ⊥
unbound x r k =
    let e : ◌≡◌ {A = Maybe Place} None (Some r) = sym (none_bound None 32 x) ∙ k in
    let z : ◌≡◌ {A = ℕ} 0 1 = cc in
    omega arith

abbrev made_of : List (Maybe Place) → Bindings
made_of v = record { at = v }

pub fresh_is : (b : Bindings) → b.at ≡ replicate 32 None → b ≡ nothing
fresh_is b e = ap made_of e

-- what the bindings say is as they say
pub all_agree : (st : Store) (b : Bindings) → Agrees st b (put_in st b)
all_agree st b x r k = ap (term_or st x) k

-- not matched from no bindings on
pub none_first : (st : Store) (l t : Term) → MatchedOn st nothing l t None → (s : ℕ → Term) → put s l ≢ t
none_first st l t m s e = m s (λ x r k. absurd (unbound x r k)) e

-- what is bound from nothing on makes the pattern the term
pub instance_first : (st : Store) (l t : Term) (b : Bindings) → MatchedOn st nothing l t (Some b) → Instance st b l t
instance_first st l t b m = record {
  is = (m.enough (put_in st b) (λ x q e. ap (term_or st x) e)).1;
  letters = λ x h. m.letters x (inr h);
  inside = m.inside;
}

-- one place on none
pub only_one : (q r : List Place) (p : Place) → q ≡ [] → r ≡ q ++ p ∷ [] → r ≡ p ∷ []
only_one q r p z o = o ∙ ap (λ (ps : List Place). ps ++ p ∷ []) z

-- the start: the whole pattern, and one place
module _ (ps ws : List ℕ) (l : Term) (st : Store) (p : Place) (q : List Place) (b : Bindings)
    (pattern : Pattern ps ws l st p) (low : p.0 < st.count) (single : q ≡ p ∷ [])
    (full : length b.at ≡ 32) (bound-low : AllInside st b) where
  one_pending : stacked st q ≡ and1 (term_in st p.0) none1
  one_pending = ap (stacked st) single

  pub match_start : Matching ps ws b l (term_in st p.0) st 0 q b
  match_start = (
    and1 l none1,
    record {
      over = (pattern.over, tt);
      written = pattern.written ∙ sym (append-nil (row l));
      long = omega (arith, ap length pattern.written, row_length l);
      counted = sym (ap length single);
      inside = subst (PlacesInside st) (sym single) inside;
      fit = subst (AllOver AnyLetter ps) (sym one_pending) (pattern.fits, tt);
      full = full;
      bound_inside = bound-low;
      enough = λ s h e. (let d : and1 (put s l) none1 ≡ and1 (term_in st p.0) none1 = e ∙ one_pending in (h, cc));
      needed = λ s h e. (h, ap (λ (u : Term). and1 u none1) e ∙ sym one_pending);
      letters = λ x i. elim i [ inl k ↦ inl k | inr k ↦ inr (here k) ];
    },
  )
    where
      inside : PlacesInside st (p ∷ [])
      inside zero h = low
      inside (suc d) h = absurd (omega arith)

-- the end: no symbol is left
module _ (ps ws : List ℕ) (b0 : Bindings) (l t : Term) (st : Store) (a : ℕ) (q : List Place) (b : Bindings) where
  all_matched : MatchingWith ps ws b0 l t st a q b none1 → Extended st b0 l t b
  all_matched m = record {
    enough = λ s h. m.enough s h (sym (ap (stacked st) (nil_from_length q (sym m.counted))));
    needed = λ s h e. (m.needed s h e).0;
    letters = λ x i. bound_at x (m.letters x i);
    full = m.full;
    inside = m.bound_inside;
  }
    where
      bound_at : (x : ℕ) → Bound b x ⊎ Ins x none1 → Bound b x
      bound_at x (inl h) = h
      bound_at x (inr i) = elim i [ ]

  pub match_end : Matching ps ws b0 l t st a q b → length ws ≤ a → Extended st b0 l t b
  match_end (none1, m) h = all_matched m
  match_end (and1 u us, m) h = absurd (omega (arith, m.long, size_some u))

  -- before the end there are as many places as patterns, and no more than 32
  some_left : (us : Terms) → 0 < sizes us → 0 < count us
  some_left none1 h = absurd (omega arith)
  some_left (and1 u us) h = omega arith

  pub match_room : length ws ≤ 64 → a < length ws → Matching ps ws b0 l t st a q b →
      (0 < length q) × (length q ≤ 32) × PlacesInside st q
  match_room k g (us, m) =
      (omega (arith, m.counted, some_left us (omega (arith, m.long))), omega (arith, m.counted, m.long, count_sizes us), m.inside)
