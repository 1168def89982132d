-- Reading a row from its end on: the roots above the first ones hold the terms from symbol k on.
use Rattle.std.proofs.Common.{◌≡◌, ℕ, suc, ◌+◌, ◌-◌, ◌*◌, ◌<◌, ◌≤◌, List, ◌∷◌, length, get_or, drop, Ok, Err, sym, refl, ap, ◌∙◌, subst}
use Rattle.std.proofs.Common.{◌%◌, ◌++◌, [], ⊎_elim, append-nil, arith, rules, get_or-drop, Some, None, Option, IsSome}
use Rattle.std.proofs.lemmas.List.{nil_from_length, append_assoc, length-append, get_or_append_left, get_or-append-add}
use mathlib.Core.Option.{some}
use Rattle.rewriting.specs.Terms.{nth, Term, letter, sign, Terms, none1, and1, count, size, sizes, AnyLetter, AllOver}
use Rattle.rewriting.specs.Rules.{Part}
use Rattle.rewriting.specs.Different.{PartOf, of_first, of_later, listed}
use Rattle.rewriting.proofs.Different.{part_trans, part_of_listed, part_in_listed, different_mono}
use Rattle.books.specs.declared.words.Symbol.{Symbol}
use Rattle.books.specs.declared.words.Symbol.TheVariants.{Letter, Sign}
use Rattle.books.specs.Reading.{SymbolAt, tag, number}
use Rattle.books.specs.Rows.{row, rows}
use Rattle.books.specs.Layouts.{FewParts}
use Rattle.books.proofs.Elements.{nth_below, nth_is}
use Rattle.books.proofs.Glueing.{row_length}
use Rattle.rewriting.proofs.Glueing.{count_sizes}
use Rattle.store.specs.declared.types.Store.{Store}
use Rattle.store.specs.declared.types.Roots.{Roots}
use Rattle.store.specs.declared.types.Full.{Full}
use Rattle.store.specs.declared.types.Full.TheVariants.{NoSlot, NoRoot}
use Rattle.store.specs.Roots.{root_at}
use Rattle.store.specs.Stacks.{CutTo}
use Rattle.store.specs.Stores.{Carried, term_in, held, terms_down, Inside, RootsKept}
use Rattle.store.specs.Making.{Made}
use Rattle.store.specs.Transfers.{RowOf, takes, symbol_term, Readable, Read}
use Rattle.store.proofs.Sounds.{sound_in}
use Rattle.store.proofs.Cases.{le_or_lt}
use Rattle.store.proofs.Placing.{carried_then, carried_grown, grown_same}
use Rattle.store.proofs.Forests.{after, after_rows, after_over, after_sizes, after_parts, down_same, down_count, down_one, down_split}
use Rattle.store.proofs.Forests.{none_left, down_part}

-- the terms of t from symbol k on
abbrev forest : ℕ → Term → Terms
forest k t = after k (and1 t none1)

-- from symbol k on t is read
pub record SoFar (a : Store) (q : Roots) (t : Term) (k : ℕ) (b : Store) (r : Roots) : Type 0 where
  pub room : b.room ≡ a.room
  pub carried : Carried a b
  pub long : length r.cells.now ≡ length q.cells.now
  pub inside : Inside b r
  pub above : q.top ≤ r.top
  pub kept : (j : ℕ) → j < q.top → held b r j ≡ held a q j
  pub is : terms_down b r q.top (r.top - q.top) ≡ after k (and1 t none1)

-- symbol k can be read: of the terms that it takes it makes the first term from there on, and leaves the others
pub record Ready (ps : List ℕ) (base : ℕ) (b : Store) (r : Roots) (y : Symbol) (fs : Terms) : Type 0 where
  pub term : Term
  pub rest : Terms
  pub split : fs ≡ and1 term rest
  pub readable : Readable ps r y
  pub enough : takes ps y ≤ r.top - base
  pub makes : symbol_term b r (takes ps y) y ≡ term
  pub others : terms_down b r base (r.top - base - takes ps y) ≡ rest

-- the words of a row
pub symbols : {ps ws : List ℕ} {t : Term} → RowOf ps ws t → length ws ≡ 2 * size t
symbols {t = t} w = ap length (sym w.written) ∙ row_length t

word_at : (ps ws : List ℕ) (t : Term) (k i : ℕ) → RowOf ps ws t → get_or (rows (forest k t)) i 0 ≡ get_or ws (2 * k + i) 0
word_at ps ws t k i w =
    ap (λ (xs : List ℕ). get_or xs i 0) (after_rows k (and1 t none1) ∙ ap (drop (2 * k)) (append-nil (row t) ∙ w.written))
    ∙ get_or-drop (2 * k) ws i 0

module _ (ps : List ℕ) (few : FewParts ps) (base : ℕ) (b : Store) (r : Roots) (above : base ≤ r.top) where
  ready_letter : (x : ℕ) (us : Terms) → terms_down b r base (r.top - base) ≡ us → Ready ps base b r (Letter x) (and1 (letter x) us)
  ready_letter x us e = record {
    term = letter x;
    rest = us;
    split = refl;
    readable = tt;
    enough = omega arith;
    makes = refl;
    others = let z : r.top - base - 0 ≡ r.top - base = omega arith in ap (λ (m : ℕ). terms_down b r base m) z ∙ e;
  }

  ready_sign : (f : ℕ) (vs us : Terms) → nth ps f ≡ some (count vs) → terms_down b r base (r.top - base) ≡ after 1 (and1 (sign f vs) us) →
      Ready ps base b r (Sign f) (and1 (sign f vs) us)
  ready_sign f vs us h e =
      let n : get_or ps f 0 ≡ count vs = nth_is ps f (count vs) 0 h in
      let low : f < length ps = nth_below ps f (count vs) h in
      let s = down_split b r base (r.top - base) vs us e in
      let four = few f low in
      let z : r.top - get_or ps f 0 ≡ base + (r.top - base - count vs) = omega (arith, s.0) in
      record {
        term = sign f vs;
        rest = us;
        split = refl;
        readable = (low, four, omega (arith, s.0));
        enough = omega (arith, s.0);
        makes = ap (λ (m : ℕ). sign f (terms_down b r m (get_or ps f 0))) z
            ∙ ap (λ (m : ℕ). sign f (terms_down b r (base + (r.top - base - count vs)) m)) n
            ∙ ap (sign f) s.1;
        others = ap (λ (m : ℕ). terms_down b r base (r.top - base - m)) n ∙ s.2;
      }

  ready_by : (fs : Terms) (y : Symbol) → 0 < sizes fs → AllOver AnyLetter ps fs → get_or (rows fs) 0 0 ≡ tag y →
      get_or (rows fs) 1 0 ≡ number y → terms_down b r base (r.top - base) ≡ after 1 fs → Ready ps base b r y fs
  ready_by none1 y s o d e h = absurd (omega arith)
  ready_by (and1 (letter x) us) (Letter z) s o d e h =
      subst (λ (w : ℕ). Ready ps base b r (Letter w) (and1 (letter x) us)) e (ready_letter x us h)
  ready_by (and1 (letter x) us) (Sign g) s o d e h = absurd (omega arith)
  ready_by (and1 (sign f vs) us) (Letter z) s o d e h = absurd (omega arith)
  ready_by (and1 (sign f vs) us) (Sign g) s o d e h =
      subst (λ (w : ℕ). Ready ps base b r (Sign w) (and1 (sign f vs) us)) e (ready_sign f vs us o.0.0 h)

-- symbol k is next
pub record Turn (ps : List ℕ) (a : Store) (q : Roots) (t : Term) (k : ℕ) (b : Store) (r : Roots) (y : Symbol) : Type 0 where
  pub low : k < size t
  pub so_far : SoFar a q t (suc k) b r
  pub ready : Ready ps q.top b r y (after k (and1 t none1))

module _ (ps ws : List ℕ) (a : Store) (q : Roots) (t : Term) (k : ℕ) (b : Store) (r : Roots) (few : FewParts ps) (w : RowOf ps ws t)
    (l : k < size t) (s : SoFar a q t (suc k) b r) where
  first_word : get_or (rows (forest k t)) 0 0 ≡ get_or ws (2 * k) 0
  first_word = let z : 2 * k + 0 ≡ 2 * k = omega arith in word_at ps ws t k 0 w ∙ ap (λ (i : ℕ). get_or ws i 0) z

  turn_at : (y : Symbol) → SymbolAt ws (2 * k) (Some y) → Turn ps a q t k b r y
  turn_at y h = record {
    low = l;
    so_far = s;
    ready = ready_by ps few q.top b r s.above (forest k t) y
        (omega (arith, after_sizes k (and1 t none1) (omega arith))) (after_over AnyLetter ps k (and1 t none1) (w.fits, tt))
        (first_word ∙ h.1) (word_at ps ws t k 1 w ∙ h.2) s.is;
  }

turn : (ps ws : List ℕ) (a : Store) (q : Roots) (t : Term) (n : ℕ) (b : Store) (r : Roots) → FewParts ps → RowOf ps ws t →
    0 < n → 2 * n ≤ length ws → SoFar a q t n b r → (x : Option Symbol) (y : Symbol) → x ≡ Some y → SymbolAt ws (2 * (n - 1)) x →
    Turn ps a q t (n - 1) b r y
turn ps ws a q t n b r few w p l s x y d h =
    let e : n ≡ suc (n - 1) = omega arith in
    turn_at ps ws a q t (n - 1) b r few w (omega (arith, symbols w)) (subst (λ (i : ℕ). SoFar a q t i b r) e s) y
    (subst (λ (z : Option Symbol). SymbolAt ws (2 * (n - 1)) z) d h)

-- there is a symbol wherever a row goes on
low_tag : (fs : Terms) → 0 < sizes fs → get_or (rows fs) 0 0 < 2
low_tag none1 s = absurd (omega arith)
low_tag (and1 (letter x) us) s = omega arith
low_tag (and1 (sign f vs) us) s = omega arith

pub symbol_there : (ps ws : List ℕ) (t : Term) (n : ℕ) → RowOf ps ws t → 0 < n → 2 * n ≤ length ws → (x : Option Symbol) →
    SymbolAt ws (2 * (n - 1)) x → IsSome x
symbol_there ps ws t n w p l (Some y) h = search rules
symbol_there ps ws t n w p l None h =
    let z : 2 * (n - 1) + 0 ≡ 2 * (n - 1) = omega arith in
    let e = word_at ps ws t (n - 1) 0 w ∙ ap (λ (i : ℕ). get_or ws i 0) z in
    let d = low_tag (forest (n - 1) t) (omega (arith, after_sizes (n - 1) (and1 t none1) (omega (arith, symbols w)), symbols w)) in
    let m = h (omega arith) in
    absurd (omega arith)

-- before the first symbol that is read
so_far_none : (a : Store) (q : Roots) (t : Term) (k : ℕ) → Inside a q → k ≡ size t → SoFar a q t k a q
so_far_none a q t k i e = record {
  room = refl;
  carried = carried_grown a a (grown_same a);
  long = refl;
  inside = i;
  above = omega arith;
  kept = λ j l. refl;
  is = let z : q.top - q.top ≡ 0 = omega arith in
      ap (λ (m : ℕ). terms_down a q q.top m) z
      ∙ sym (none_left (forest k t) (omega (arith, after_sizes k (and1 t none1) (omega arith))));
}

-- one symbol more
module _ (ps : List ℕ) (a : Store) (q : Roots) (t : Term) (k : ℕ) (b : Store) (r : Roots) (s : SoFar a q t (suc k) b r) (y : Symbol)
    (h : Ready ps q.top b r y (after k (and1 t none1))) (l : k < size t) (d : Store) (u : Roots) where
  read_more : (x : Unit {0}) →
      Made b r (r.top - takes ps y) (symbol_term b r (takes ps y) y) d u (Ok x) → SoFar a q t k d u
  read_more x m = let v = m.roots in
      let from1 : r.top - takes ps y ≡ q.top + (r.top - q.top - takes ps y) = omega (arith, h.enough, s.above) in
      let n : u.top - q.top ≡ suc (r.top - q.top - takes ps y) = omega (arith, v.top, h.enough, s.above) in
      record {
        room = m.room ∙ s.room;
        carried = carried_then a b d s.carried m.carried;
        long = v.long ∙ s.long;
        inside = v.inside;
        above = omega (arith, v.top, h.enough, s.above);
        kept = λ j z. v.terms j (omega (arith, h.enough, s.above)) ∙ s.kept j z;
        is = ap (λ (i : ℕ). terms_down d u q.top i) n
            ∙ ap (λ (i : ℕ). and1 (held d u i) (terms_down d u q.top (r.top - q.top - takes ps y))) (sym from1)
            ∙ ap (λ (z : Term). and1 z (terms_down d u q.top (r.top - q.top - takes ps y))) (v.term ∙ h.makes)
            ∙ ap (and1 h.term) (down_same b d r u q.top _ (λ j z. v.terms j (omega arith)) ∙ h.others)
            ∙ sym h.split;
      }

  -- the roots cut back
  cut_kept : (w : Roots) → RootsKept b r d u → CutTo u q.top w → RootsKept a q d w
  cut_kept w o c =
      let same : (j : ℕ) → root_at w.cells.now j ≡ root_at u.cells.now j = λ j. ap (λ (xs : List ℕ). root_at xs j) c.cells in
      record {
        top = c.top;
        long = ap length c.cells ∙ o.long ∙ s.long;
        inside = record {
          fits = omega (arith, o.inside.fits, c.top, o.top, s.above, ap length c.cells);
          low = λ j z. let e = same j in let y = o.inside.low j (omega (arith, o.top, s.above, c.top)) in omega arith;
        };
        terms = λ j z. ap (λ (x : ℕ). term_in d x) (same j) ∙ o.terms j (omega (arith, s.above)) ∙ s.kept j z;
      }

  -- what the roots hold are parts of t, and what they held before
  held_part : (v : Term) → PartOf v (listed (λ j. held b r j) r.top) → PartOf v (t ∷ listed (λ j. held a q j) q.top)
  held_part v p =
      let h = part_in_listed (λ j. held b r j) r.top v p in let j = h.0 in let low : j < r.top = h.1 in
      ⊎_elim
      (λ z. let e : q.top + (j - q.top) ≡ j = omega arith in
      of_first (part_trans h.2 (subst (λ (i : ℕ). Part (held b r i) t) e
      (down_part b r q.top (r.top - q.top) t (after (suc k) (and1 t none1)) s.is (after_parts (suc k) t) (j - q.top)
      (omega arith)))))
      (λ z. of_later (part_of_listed (λ i. held a q i) q.top j v z (subst (λ (x : Term). Part v x) (s.kept j z) h.2)))
      (le_or_lt q.top j)

  few_roots : r.top - takes ps y + 1 ≤ q.top + size t
  few_roots =
      let c : count (after k (and1 t none1)) ≡ 1 + count h.rest = ap count h.split in
      let e : count h.rest ≡ r.top - q.top - takes ps y = ap count (sym h.others) ∙ down_count b r q.top _ in
      omega (arith, count_sizes (after k (and1 t none1)), after_sizes k (and1 t none1) (omega arith), h.enough, s.above)

  read_stops : (f : Full) (w : Roots) →
      Made b r (r.top - takes ps y) (symbol_term b r (takes ps y) y) d u (Err f) → CutTo u q.top w →
      Read a q t d w (Err f)
  read_stops NoSlot w m c = record {
    sound = m.sound;
    room = m.room ∙ s.room;
    carried = carried_then a b d s.carried m.carried;
    roots = (
      cut_kept w m.roots.0 c,
      let bound = different_mono (listed (λ j. held b r j) r.top) (t ∷ listed (λ j. held a q j) q.top) held_part in
          let full = m.roots.1 in omega (arith, s.room),
    );
  }
  read_stops NoRoot w m c = record {
    sound = m.sound;
    room = m.room ∙ s.room;
    carried = carried_then a b d s.carried m.carried;
    roots = (cut_kept w m.roots.0 c, λ g. m.roots.1 (omega (arith, few_roots, s.long)));
  }

-- the words up to a symbol are still to be read
pub record ToRead (ps ws rest : List ℕ) (a : Store) (q : Roots) (b : Store) (r : Roots) : Type 0 where
  pub number : ℕ
  pub long : length rest ≡ 2 * number
  pub tail : List ℕ
  pub split : ws ≡ rest ++ tail
  pub so_far : (t : Term) → RowOf ps ws t → SoFar a q t number b r

-- at first all are
pub all_to_read : (ps ws none rest : List ℕ) (a : Store) (q : Roots) → ws ≡ none ++ rest → length none ≡ length ws % 2 → Inside a q →
    (t : Term) → RowOf ps ws t → ToRead ps ws rest a q a q
all_to_read ps ws none rest a q e l i t w =
    let n : none ≡ [] = nil_from_length none (omega (arith, l, symbols w)) in
    let d : ws ≡ rest = e ∙ ap (λ (xs : List ℕ). xs ++ rest) n in
    record {
      number = size t;
      long = omega (arith, ap length d, symbols w);
      tail = [];
      split = d ∙ sym (append-nil rest);
      so_far = λ u o. so_far_none a q u (size t) i (omega (arith, symbols w, symbols o));
    }

-- a symbol that stands in a row by itself
module _ (ws rest pair tail : List ℕ) (k : ℕ) (e : ws ≡ (rest ++ pair) ++ tail) (l : length rest ≡ 2 * k) (two : length pair ≡ 2) where
  long_pair : length ws ≡ 2 * k + 2 + length tail
  long_pair = omega (arith, ap length e, length-append (rest ++ pair) tail, length-append rest pair)

  word_in : (i : ℕ) → i < 2 → get_or ws (2 * k + i) 0 ≡ get_or pair i 0
  word_in i m =
      ap (λ (xs : List ℕ). get_or xs (2 * k + i) 0) e
      ∙ get_or_append_left (rest ++ pair) tail 0 (2 * k + i) (omega (arith, length-append rest pair))
      ∙ ap (λ (n : ℕ). get_or (rest ++ pair) (n + i) 0) (sym l)
      ∙ get_or-append-add rest pair i 0

  first_in : get_or ws (2 * k) 0 ≡ get_or pair 0 0
  first_in = let z : 2 * k ≡ 2 * k + 0 = omega arith in ap (λ (i : ℕ). get_or ws i 0) z ∙ word_in 0 (omega arith)

  symbol_in : (x : Option Symbol) → SymbolAt pair 0 x → SymbolAt ws (2 * k) x
  symbol_in (Some y) h = (omega (arith, long_pair), first_in ∙ h.1, word_in 1 (omega arith) ∙ h.2)
  symbol_in None h = λ m. let z = h (omega arith) in omega (arith, first_in)

-- the last symbol that is to be read
module _ (ps ws all rest pair : List ℕ) (a : Store) (q : Roots) (b : Store) (r : Roots) (h : ToRead ps ws all a q b r)
    (e : all ≡ rest ++ pair) (two : length pair ≡ 2) (x : Option Symbol) (at : SymbolAt pair 0 x) where
  long_all : 2 * h.number ≡ length rest + 2
  long_all = omega (arith, h.long, ap length e, length-append rest pair)

  long_rest : length rest ≡ 2 * (h.number - 1)
  long_rest = omega (arith, long_all)

  long_words : 2 * h.number ≤ length ws
  long_words = omega (arith, h.long, ap length h.split, length-append all h.tail)

  split_on : ws ≡ (rest ++ pair) ++ h.tail
  split_on = h.split ∙ ap (λ (xs : List ℕ). xs ++ h.tail) e

  symbol_next : SymbolAt ws (2 * (h.number - 1)) x
  symbol_next = symbol_in ws rest pair h.tail (h.number - 1) split_on long_rest two x at

  pub next_there : (t : Term) → RowOf ps ws t → IsSome x
  next_there t w = symbol_there ps ws t h.number w (omega (arith, long_all)) long_words x symbol_next

  module _ (few : FewParts ps) (y : Symbol) (is : x ≡ Some y) where
    pub next_turn : (t : Term) → RowOf ps ws t → Turn ps a q t (h.number - 1) b r y
    next_turn t w =
        turn ps ws a q t h.number b r few w (omega (arith, long_all)) long_words (h.so_far t w) x y is symbol_next

    pub next_readable : (t : Term) → RowOf ps ws t → Inside b r × Readable ps r y
    next_readable t w = let z = next_turn t w in (z.so_far.inside, z.ready.readable)

    module _ (d : Store) (u : Roots) where
      pub next_stops : (f : Full) (v : Roots) →
          Made b r (r.top - takes ps y) (symbol_term b r (takes ps y) y) d u (Err f) → CutTo u q.top v →
          (t : Term) → RowOf ps ws t → Read a q t d v (Err f)
      next_stops f v m c t w =
          let z = next_turn t w in
          read_stops ps a q t (h.number - 1) b r z.so_far y z.ready z.low d u f v m c

      pub next_read : (o : Unit {0}) → Made b r (r.top - takes ps y) (symbol_term b r (takes ps y) y) d u (Ok o) →
          ToRead ps ws rest a q d u
      next_read o m = record {
        number = h.number - 1;
        long = long_rest;
        tail = pair ++ h.tail;
        split = split_on ∙ append_assoc rest pair h.tail;
        so_far = λ t w. let z = next_turn t w in read_more ps a q t (h.number - 1) b r z.so_far y z.ready z.low d u o m;
      }

-- all symbols
read_done : (a : Store) (q : Roots) (t : Term) (b : Store) (r : Roots) (x : Unit {0}) → SoFar a q t 0 b r → Read a q t b r (Ok x)
read_done a q t b r x s =
    let o = down_one b r q.top (r.top - q.top) t s.is in
    record {
      sound = sound_in b;
      room = s.room;
      carried = s.carried;
      roots = record { top = omega (arith, o.0); long = s.long; inside = s.inside; terms = s.kept; term = o.1 };
    }

pub all_read : (ps ws rest : List ℕ) (a : Store) (q : Roots) (b : Store) (r : Roots) (x : Unit {0}) → ToRead ps ws rest a q b r →
    length rest < 2 → (t : Term) → RowOf ps ws t → Read a q t b r (Ok x)
all_read ps ws rest a q b r x h l t w =
    let z : h.number ≡ 0 = omega (arith, h.long) in
    read_done a q t b r x (subst (λ (i : ℕ). SoFar a q t i b r) z (h.so_far t w))
