-- Building symbol by symbol, from the last to the first: what each turn needs and keeps.
use Rattle.std.proofs.Common.{◌≡◌, ℕ, zero, suc, ◌+◌, ◌-◌, ◌*◌, ◌<◌, ◌≤◌, ◌⊎◌, List, [], ◌∷◌, ◌++◌, length, get_or, drop, Option, Some, sym}
use Rattle.std.proofs.Common.{refl, ap, ◌∙◌}
use Rattle.std.proofs.Common.{subst, ap₂, inl, inr, ⊎_elim, append-nil, arith, get_or-drop}
use mathlib.Core.Option.{some}
use Rattle.rewriting.specs.Terms.{nth, Term, letter, sign, Terms, none1, and1, glue, count, size, sizes}
use Rattle.rewriting.specs.Terms.{put, puts, In, is, Ins, part, here, there, AllOver, AnyLetter}
use Rattle.rewriting.proofs.Glueing.{count_glue, count_sizes, puts_glue, size_some}
use Rattle.rewriting.proofs.Replacing.{count_puts}
use Rattle.books.specs.Rows.{row, rows}
use Rattle.books.proofs.Glueing.{glue_none}
use Rattle.books.specs.Layouts.{FewParts}
use Rattle.books.proofs.Elements.{nth_below, nth_is}
use Rattle.books.proofs.Forests.{behind}
use Rattle.books.specs.Reading.{tag, number, SymbolAt}
use Rattle.books.specs.declared.words.Symbol.{Symbol}
use Rattle.books.specs.declared.words.Symbol.TheVariants.{Letter, Sign}
use Rattle.store.specs.declared.types.Store.{Store}
use Rattle.store.specs.declared.types.Place.{Place}
use Rattle.store.specs.Stores.{Grown, term_in}
use Rattle.store.specs.Making.{SignShared}
use Rattle.store.specs.Transfers.{RowOf, inner}
use Rattle.store.proofs.Sounds.{sound_in}
use Rattle.store.proofs.Cases.{le_or_lt}
use Rattle.store.proofs.Placing.{grown_same, grown_then}
use Rattle.store.proofs.Forests.{after, after_rows, after_over, after_sizes, none_left}
use Rattle.store.proofs.Reading.{symbols}
use Rattle.engine.specs.declared.types.Bindings.{Bindings}
use Rattle.engine.specs.Matching.{bound, put_in, AllInside, Bound, stacked, PlacesInside}
use Rattle.engine.specs.Building.{Taken, Fillable, Buildable, SignsAdded, SymbolBuilt, BehindBuilt, RowInstanceBuilt, RowPartsBuilt}
use Rattle.engine.proofs.Pendings.{zero_place, stacked_more, inside_more}
use Rattle.engine.proofs.Builts.{stacked_count, inside_grown, taken_inside, sign_on_top, put_in_bound, put_in_grown, parts_taken}

no_letter : {f x : ℕ} {ts : Terms} → sign f ts ≡ letter x → ⊥
no_letter e = let z : ◌≡◌ {A = ℕ} 0 1 = cc in omega arith

-- the symbol's term is built
module _ (ps : List ℕ) (num : ℕ) (b : Bindings) (st : Store) (q : List Place) where
  pub letter_built : Buildable ps (Letter num) b st q → (p : Place) (r : List Place) → bound b num ≡ Some p → r ≡ q ++ p ∷ [] →
      SymbolBuilt ps (Letter num) b st q st r
  letter_built can p r e o = record {
    sound = sound_in st;
    grown = grown_same st;
    few = omega arith;
    signs = λ i x l m. absurd (omega arith);
    inside = subst (PlacesInside st) (sym o) (inside_more st q p can.inside (can.bound_inside num p e));
    made = ap (stacked st) o ∙ (stacked_more st q p ∙ ap (λ (t : Term). and1 t (stacked st q)) (sym (put_in_bound st b num p e)));
  }

  pub sign_built : Buildable ps (Sign num) b st q → (xs r : List Place) (su : Store) (p : Place) (u : List Place) →
      Taken q (get_or ps num 0) xs r → SignShared st num xs (get_or ps num 0) su p →
      ((i : ℕ) → st.count ≤ i → i < su.count → i ≡ p.0) → u ≡ r ++ p ∷ [] → SymbolBuilt ps (Sign num) b st q su u
  sign_built can xs r su p u t s new o = record {
    sound = s.sound;
    grown = s.grown;
    few = s.few;
    signs = λ i x l m e. let z : i ≡ p.0 = new i l m in no_letter (sym (ap (λ (n : ℕ). term_in su n) z ∙ s.term) ∙ e);
    inside = subst (PlacesInside su) (sym o) (inside_more su r p
        (inside_grown st su r s.grown (taken_inside st q (get_or ps num 0) xs r t can.inside)) s.inside);
    made = λ vs us c e. sign_on_top st q (get_or ps num 0) xs r t num su p u vs us s o can.inside can.symbol.enough c e;
  }

pub signs_then : (a b d : Store) → SignsAdded a b → Grown b d → SignsAdded b d → SignsAdded a d
signs_then a b d f g h i x l m e =
    ⊎_elim (λ z. h i x z m e) (λ z. f i x l z (sym (g.terms i z) ∙ e)) (le_or_lt b.count i)

-- letters behind the first symbol
unglue : {x : ℕ} (us vs : Terms) → Ins x (glue us vs) → Ins x us ⊎ Ins x vs
unglue none1 vs i = inr i
unglue (and1 u us) vs (here i) = inl (here i)
unglue (and1 u us) vs (there i) = elim (unglue us vs i) [
  | inl j ↦ inl (there j)
  | inr j ↦ inr j
]

behind_ins : {x : ℕ} (ts : Terms) → Ins x (behind ts) → Ins x ts
behind_ins none1 i = i
behind_ins (and1 (letter y) us) i = there i
behind_ins (and1 (sign f vs) us) i = elim (unglue vs us i) [
  | inl j ↦ here (part j)
  | inr j ↦ there j
]

after_ins : {x : ℕ} (k : ℕ) (ts : Terms) → Ins x (after k ts) → Ins x ts
after_ins zero ts i = i
after_ins (suc k) ts i = after_ins k ts (behind_ins (after k ts) i)

only_in : {x : ℕ} {t : Term} → Ins x (and1 t none1) → In x t
only_in (here i) = i
only_in (there i) = elim i [ ]

-- the two words of symbol k
word_at : (ps ws : List ℕ) (t : Term) (k i : ℕ) → RowOf ps ws t → get_or (rows (after k (and1 t none1))) i 0 ≡ get_or ws (2 * k + i) 0
word_at ps ws t k i w =
    ap (λ (xs : List ℕ). get_or xs i 0) (after_rows k (and1 t none1) ∙ ap (drop (2 * k)) (append-nil (row t) ∙ w.written))
    ∙ get_or-drop (2 * k) ws i 0

-- the symbol can be built, and then the terms from there on are
pub record Turn (a0 : Store) (ps : List ℕ) (y : Symbol) (b : Bindings) (st : Store) (q : List Place) (fs : Terms) : Type 0 where
  pub can : Buildable ps y b st q
  pub next : (su : Store) (r : List Place) → SymbolBuilt ps y b st q su r → stacked su r ≡ puts (put_in a0 b) fs

module _ (ps : List ℕ) (few : FewParts ps) (a0 : Store) (b : Bindings) (inside0 : AllInside a0 b) (st : Store)
    (q : List Place) (grown : Grown a0 st) (inside : PlacesInside st q) (short : length q < 32) where
  still_inside : AllInside st b
  still_inside x p e = let l = inside0 x p e in let m = grown.longer in omega arith

  letter_turn : (x : ℕ) (us : Terms) → x < 32 → Bound b x → stacked st q ≡ puts (put_in a0 b) us →
      Turn a0 ps (Letter x) b st q (and1 (letter x) us)
  letter_turn x us low (p, e) i = record {
    can = record {
      inside = inside;
      bound_inside = still_inside;
      symbol = (short, low, (p, e));
    };
    next = λ su r s. s.made ∙ ap₂ and1 (put_in_grown a0 st b x p grown inside0 e) i;
  }

  sign_turn : (f : ℕ) (vs us : Terms) → nth ps f ≡ some (count vs) →
      stacked st q ≡ puts (put_in a0 b) (glue vs us) → Turn a0 ps (Sign f) b st q (and1 (sign f vs) us)
  sign_turn f vs us o i =
      let s = put_in a0 b in
      let n : get_or ps f 0 ≡ count vs = nth_is ps f (count vs) 0 o in
      let low : f < length ps = nth_below ps f (count vs) o in
      let c : length q ≡ count vs + count us =
      sym (stacked_count st q) ∙ ap count i ∙ count_puts s (glue vs us) ∙ count_glue vs us in
      record {
        can = record {
          inside = inside;
          bound_inside = still_inside;
          symbol = record { within = low; few = few f low; enough = omega arith; space = omega arith };
        };
        next = λ su r d. d.made (puts s vs) (puts s us) (count_puts s vs ∙ sym n) (i ∙ puts_glue s vs us);
      }

  zero_one : ◌≡◌ {A = ℕ} 0 1 → ⊥
  zero_one e = omega arith

  turn_by : (fs : Terms) (y : Symbol) → 0 < sizes fs → AllOver AnyLetter ps fs → ((x : ℕ) → Ins x fs → (x < 32) × Bound b x) →
      get_or (rows fs) 0 0 ≡ tag y → get_or (rows fs) 1 0 ≡ number y → stacked st q ≡ puts (put_in a0 b) (behind fs) →
      Turn a0 ps y b st q fs
  turn_by none1 y z o k d e i = absurd (omega arith)
  turn_by (and1 (letter x) us) (Letter n) z o k d e i =
      let (low, bd) = k x (here is) in
      subst (λ (v : ℕ). Turn a0 ps (Letter v) b st q (and1 (letter x) us)) e (letter_turn x us low bd i)
  turn_by (and1 (letter x) us) (Sign n) z o k d e i = absurd (zero_one d)
  turn_by (and1 (sign f vs) us) (Letter n) z o k d e i = absurd (zero_one (sym d))
  turn_by (and1 (sign f vs) us) (Sign n) z o k d e i =
      subst (λ (v : ℕ). Turn a0 ps (Sign v) b st q (and1 (sign f vs) us)) e (sign_turn f vs us o.0.0 i)

-- from symbol k on the instance of t is built
pub record SoBuilt (t : Term) (a : Store) (b : Bindings) (k : ℕ) (st : Store) (q : List Place) : Type 0 where
  pub grown : Grown a st
  pub few : st.count + k ≤ a.count + size t
  pub signs : SignsAdded a st
  pub inside : PlacesInside st q
  pub terms : stacked st q ≡ puts (put_in a b) (after k (and1 t none1))

pub none_built : (t : Term) (a : Store) (b : Bindings) (k : ℕ) (q : List Place) → k ≡ size t → q ≡ [] → SoBuilt t a b k a q
none_built t a b k q e z = record {
  grown = grown_same a;
  few = omega arith;
  signs = λ i x l m. absurd (omega arith);
  inside = λ d l. absurd (omega (arith, ap length z));
  terms = ap (stacked a) z
      ∙ ap (puts (put_in a b)) (sym (none_left (after k (and1 t none1)) (omega (arith, after_sizes k (and1 t none1) (omega arith)))));
}

-- all but the first symbol is built, and so the parts are
behind_inner : (t : Term) → after 1 (and1 t none1) ≡ inner t
behind_inner (letter x) = refl
behind_inner (sign f ts) = glue_none ts

pub behind_built : (t : Term) (a : Store) (b : Bindings) (st : Store) (q : List Place) → SoBuilt t a b 1 st q → BehindBuilt a b t st q
behind_built t a b st q s = record {
  grown = s.grown;
  few = s.few;
  signs = s.signs;
  inside = s.inside;
  terms = s.terms ∙ ap (puts (put_in a b)) (behind_inner t);
}

pub behind_count : (t : Term) (a : Store) (b : Bindings) (st : Store) (q : List Place) → BehindBuilt a b t st q →
    length q ≡ count (inner t)
behind_count t a b st q s = sym (stacked_count st q) ∙ ap count s.terms ∙ count_puts (put_in a b) (inner t)

pub so_behind : (t : Term) (a : Store) (b : Bindings) (st : Store) (q : List Place) → BehindBuilt a b t st q → SoBuilt t a b 1 st q
so_behind t a b st q s = record {
  grown = s.grown;
  few = s.few;
  signs = s.signs;
  inside = s.inside;
  terms = s.terms ∙ ap (puts (put_in a b)) (sym (behind_inner t));
}

module _ (ps ws : List ℕ) (few : FewParts ps) (t : Term) (a : Store) (b : Bindings) (f : Fillable ps ws b t)
    (inside : AllInside a b) where
  pub symbols_built : length ws ≡ 2 * size t
  symbols_built = symbols f.row

  turn_at : (k : ℕ) (y : Symbol) (st : Store) (q : List Place) → k < size t → SymbolAt ws (2 * k) (Some y) → SoBuilt t a b (suc k) st q →
      Turn a ps y b st q (after k (and1 t none1))
  turn_at k y st q l at s =
      let fs = after k (and1 t none1) in
      let c : length q ≡ count (behind fs) =
      sym (stacked_count st q) ∙ ap count s.terms ∙ count_puts (put_in a b) (behind fs) in
      let z : 2 * k + 0 ≡ 2 * k = omega arith in
      turn_by ps few a b inside st q s.grown s.inside
      (omega (arith, count_sizes (behind fs), after_sizes (suc k) (and1 t none1) (omega arith), f.small))
      fs y (omega (arith, after_sizes k (and1 t none1) (omega arith))) (after_over AnyLetter ps k (and1 t none1) (f.row.fits, tt))
      (λ x i. let j = only_in (after_ins k (and1 t none1) i) in (f.low x j, f.bound x j))
      (word_at ps ws t k 0 f.row ∙ ap (λ (n : ℕ). get_or ws n 0) z ∙ at.1) (word_at ps ws t k 1 f.row ∙ at.2) s.terms

  -- symbol n - 1 is next
  pub turn : (n : ℕ) (st : Store) (q : List Place) → 0 < n → n ≤ size t → SoBuilt t a b n st q → (x : Option Symbol) (y : Symbol) →
      x ≡ Some y → SymbolAt ws (2 * (n - 1)) x → Turn a ps y b st q (after (n - 1) (and1 t none1))
  turn n st q p l s x y same at =
      let e : n ≡ suc (n - 1) = omega arith in
      turn_at (n - 1) y st q (omega arith) (subst (SymbolAt ws (2 * (n - 1))) same at)
      (subst (λ (k : ℕ). SoBuilt t a b k st q) e s)

  pub built_more : (n : ℕ) (st : Store) (q : List Place) → SoBuilt t a b n st q → 0 < n → {y : Symbol} →
      Turn a ps y b st q (after (n - 1) (and1 t none1)) → (su : Store) (r : List Place) → SymbolBuilt ps y b st q su r →
      SoBuilt t a b (n - 1) su r
  built_more n st q s p turned su r d = record {
    grown = grown_then a st su s.grown d.grown;
    few = omega (arith, d.few, s.few);
    signs = signs_then a st su s.signs d.grown d.signs;
    inside = d.inside;
    terms = turned.next su r d;
  }

  pub one_built : (st : Store) (q : List Place) → SoBuilt t a b 0 st q → length q ≡ 1
  one_built st q s = omega (arith, stacked_count st q, ap count s.terms)

  pub built_all : (st : Store) (q : List Place) → SoBuilt t a b 0 st q → RowInstanceBuilt a b t st (get_or q 0 zero_place)
  built_all st [] s = absurd (omega (arith, one_built st [] s))
  built_all st (p ∷ _ ∷ ps) s = absurd (omega (arith, one_built st _ s))
  built_all st (p ∷ []) s =
      let e : and1 (term_in st p.0) none1 ≡ and1 (put (put_in a b) t) none1 = s.terms in
      record {
        sound = sound_in st;
        grown = s.grown;
        few = omega (arith, s.few);
        signs = s.signs;
        inside = s.inside 0 (omega arith);
        is = cc;
      }

  -- the first symbol, after all that is behind it
  pub first_turn : (st : Store) (q : List Place) → BehindBuilt a b t st q → (x : Option Symbol) (y : Symbol) → x ≡ Some y → SymbolAt ws 0 x →
      Turn a ps y b st q (and1 t none1)
  first_turn st q s x y = turn 1 st q (omega arith) (omega (arith, size_some t)) (so_behind t a b st q s) x y

  pub first_built : (st : Store) (q : List Place) → BehindBuilt a b t st q → (x : Option Symbol) (y : Symbol) → x ≡ Some y →
      SymbolAt ws 0 x → (su : Store) (r : List Place) → SymbolBuilt ps y b st q su r → RowInstanceBuilt a b t su (get_or r 0 zero_place)
  first_built st q s x y e at su r d =
      built_all su r (built_more 1 st q (so_behind t a b st q s) (omega arith) (first_turn st q s x y e at) su r d)

  pub first_long : (st : Store) (q : List Place) → BehindBuilt a b t st q → (x : Option Symbol) (y : Symbol) → x ≡ Some y → SymbolAt ws 0 x →
      (su : Store) (r : List Place) → SymbolBuilt ps y b st q su r → length r ≡ 1
  first_long st q s x y e at su r d =
      one_built su r (built_more 1 st q (so_behind t a b st q s) (omega arith) (first_turn st q s x y e at) su r d)

  -- the parts are taken
  pub parts_built : (n : ℕ) (st : Store) (q : List Place) → BehindBuilt a b t st q → n ≤ 4 → count (inner t) ≡ n → (xs r : List Place) →
      Taken q n xs r → RowPartsBuilt a b t n st xs
  parts_built n st q s l c xs r k =
      let long : length q ≡ n = behind_count t a b st q s ∙ c in
      let vs = puts (put_in a b) (inner t) in
      record {
        sound = sound_in st;
        grown = s.grown;
        few = omega (arith, s.few);
        inside = λ i m. subst (λ (p : Place). p.0 < st.count) (sym (k.parts i m)) (s.inside (length q - 1 - i) (omega arith));
        terms = (parts_taken st q n xs r k vs none1 (omega arith) (count_puts (put_in a b) (inner t) ∙ c) (s.terms ∙ sym (glue_none vs))).0;
      }
