-- A row read by chunks of two words, each of them a symbol: where matching and building have come to when some words are left.
use Rattle.std.proofs.Common.{◌≡◌, ℕ, ◌+◌, ◌<◌, ◌≤◌, List, ◌++◌, length, get_or, drop, Some, None}
use Rattle.std.proofs.Common.{Option as Maybe, sym, ap, ◌∙◌, subst, arith, rules}
use Rattle.std.proofs.Common.{[], ◌-◌, ◌*◌, ◌%◌, refl, append_assoc, append-nil, take, take-append-drop, length-take-le}
use Rattle.std.proofs.lemmas.List.{nil_from_length, take_rest}
use Rattle.std.proofs.Common.{length-append, length-drop, get_or-drop, drop-drop}
use lib.ListN.{get_or-append}
use lib.Seq.{drop-append_seam}
use Rattle.std.specs.Option.{IsSome}
use Rattle.rewriting.specs.Terms.{Term, none1, and1, size}
use Rattle.books.specs.Reading.{SymbolAt}
use Rattle.books.specs.declared.words.Symbol.{Symbol}
use Rattle.books.proofs.Glueing.{row_length}
use Rattle.store.specs.declared.types.Store.{Store}
use Rattle.store.specs.declared.types.Place.{Place}
use Rattle.store.specs.Stores.{term_in}
use Rattle.engine.specs.declared.types.Bindings.{Bindings}
use Rattle.engine.specs.Matching.{Pattern, SomePattern, PlacesInside, MatchesAll, MatchedOn, Turns, Turned}
use Rattle.engine.specs.Matching.{AllInside}
use Rattle.rewriting.proofs.Glueing.{size_some}
use Rattle.engine.specs.Building.{Fillable, SymbolBuilt, BehindBuilt}
use Rattle.books.specs.Layouts.{FewParts}
use Rattle.store.proofs.Forests.{after}
use Rattle.store.proofs.Reading.{symbol_there, symbols}
use Rattle.engine.proofs.Builder.{SoBuilt, Turn, none_built, symbols_built, turn, built_more, behind_built}
use Rattle.engine.proofs.Matcher.{no_turn, match_room, match_end}

-- a chunk says the symbol at its place, and the words behind it are left
module _ (ws xs rest : List ℕ) (a : ℕ) (d : drop a ws ≡ xs ++ rest) (two : length xs ≡ 2) where
  word : (i : ℕ) → i < 2 → get_or ws (a + i) 0 ≡ get_or xs i 0
  word i l = sym (get_or-drop a ws i 0) ∙ ap (λ (v : List ℕ). get_or v i 0) d ∙ get_or-append xs rest 0 i (omega arith)

  long : a + 2 + length rest ≡ length ws
  long = omega (arith, ap length d, length-drop a ws, length-append xs rest)

  pub chunk_symbol : (y : Maybe Symbol) → SymbolAt xs 0 y → SymbolAt ws a y
  chunk_symbol (Some y) s =
      let z : a + 0 ≡ a = omega arith in
      (omega (arith, long), ap (λ (i : ℕ). get_or ws i 0) (sym z) ∙ word 0 (omega arith) ∙ s.1, word 1 (omega arith) ∙ s.2)
  chunk_symbol None s = λ l.
      let z : a + 0 ≡ a = omega arith in
      omega (arith, ap (λ (i : ℕ). get_or ws i 0) z, word 0 (omega arith), s (omega arith))

  pub chunk_next : drop (a + 2) ws ≡ rest
  chunk_next =
      sym (drop-drop 2 a ws) ∙ ap (drop 2) d ∙ ap (λ (n : ℕ). drop n (xs ++ rest)) (sym two) ∙ drop-append_seam xs rest

-- matching has come to the place where some words are left, whatever the pattern is
pub record MatchedTo (ws : List ℕ) (b0 : Bindings) (st : Store) (p : Place) (rest : List ℕ) (q : List Place) (b : Bindings) : Type 0 where
  pub place : ℕ
  pub there : drop place ws ≡ rest
  pub matches : MatchesAll ws b0 st p place q b

-- one chunk more
module _ {ws : List ℕ} {b0 : Bindings} {st : Store} {p : Place} {rest : List ℕ} {q : List Place} {b : Bindings}
    (m : MatchedTo ws b0 st p rest q b) (some : SomePattern ws st p) (xs : List ℕ) (more : List ℕ) (d : rest ≡ xs ++ more)
    (two : length xs ≡ 2) where
  at_chunk : drop m.place ws ≡ xs ++ more
  at_chunk = m.there ∙ d

  pub is_symbol : (y : Maybe Symbol) → SymbolAt xs 0 y → IsSome y
  is_symbol (Some y) s = search rules
  is_symbol None s =
      let (ps, l, h) = some in
      absurd (no_turn ps ws b0 l (term_in st p.0) st m.place q b (omega (arith, long ws xs more m.place at_chunk two))
      (chunk_symbol ws xs more m.place at_chunk two None s) (m.matches ps l h))

  pub room : (0 < length q) × (length q ≤ 32) × PlacesInside st q
  room =
      let (ps, l, h) = some in
      match_room ps ws b0 l (term_in st p.0) st m.place q b (omega (arith, ap length h.written, row_length l, h.short))
      (omega (arith, long ws xs more m.place at_chunk two)) (m.matches ps l h)

  pub turned : (r : List Place) (c : Bindings) (y : Symbol) (x : _) → SymbolAt xs 0 (Some y) →
      ((vs : List ℕ) (a : ℕ) → SymbolAt vs a (Some y) → Turns vs st a q b r c x) →
      (ps : List ℕ) (l : Term) → Pattern ps ws l st p → Turned ps ws b0 l (term_in st p.0) st (m.place + 2) r c x
  turned r c y x s turns ps l h =
      turns ws m.place (chunk_symbol ws xs more m.place at_chunk two (Some y) s) ps b0 l (term_in st p.0) (m.matches ps l h)

  pub next_to : (r : List Place) (c : Bindings) → MatchesAll ws b0 st p (m.place + 2) r c → MatchedTo ws b0 st p more r c
  next_to r c h = record { place = m.place + 2; there = chunk_next ws xs more m.place at_chunk two; matches = h }

-- no chunk is left
pub matched_end : {ws : List ℕ} {b0 : Bindings} {st : Store} {p : Place} {rest : List ℕ} {q : List Place} {b : Bindings} →
    MatchedTo ws b0 st p rest q b → length rest < 2 → (ps : List ℕ) (l : Term) → Pattern ps ws l st p →
    MatchedOn st b0 l (term_in st p.0) (Some b)
matched_end {ws} {b0} {st} {p} {rest} {q} {b} m short ps l h =
    let k = m.matches ps l h in
    match_end ps ws b0 l (term_in st p.0) st m.place q b k
    (omega (arith, ap length m.there, length-drop m.place ws, k.1.long))

-- building has come to the place in front of which some words are left
pub record BuiltTo (ps ws : List ℕ) (b : Bindings) (a : Store) (rest : List ℕ) (st : Store) (q : List Place) : Type 0 where
  pub symbols : ℕ
  pub behind : List ℕ
  pub long : length rest ≡ 2 * symbols
  pub there : ws ≡ rest ++ behind
  pub built : (t : Term) → Fillable ps ws b t → SoBuilt t a b symbols st q

-- nothing is built yet
module _ {ps ws : List ℕ} (few : FewParts ps) {b : Bindings} {a : Store} (inside : AllInside a b) where
  pub built_from : ((t : Term) × Fillable ps ws b t) → (front rest : List ℕ) → ws ≡ front ++ rest → length front ≡ length ws % 2 →
      (q : List Place) → q ≡ [] → BuiltTo ps ws b a rest a q
  built_from (t, f) front rest d odd q e =
      let none : front ≡ [] = nil_from_length front (odd ∙ even t f) in
      let all : ws ≡ rest = d ∙ ap (λ (v : List ℕ). v ++ rest) none in
      record {
        symbols = size t;
        behind = [];
        long = sym (ap length all) ∙ symbols_built ps ws few t a b f inside;
        there = all ∙ sym (append-nil rest);
        built = λ u g. none_built u a b (size t) q
            (omega (arith, symbols_built ps ws few t a b f inside, symbols_built ps ws few u a b g inside)) e;
      }
    where
      even : (u : Term) → Fillable ps ws b u → length ws % 2 ≡ 0
      even u g = omega (arith, symbols_built ps ws few u a b g inside)

  -- one chunk more
  module _ {rest : List ℕ} {st : Store} {q : List Place} (m : BuiltTo ps ws b a rest st q) (more xs : List ℕ) (d : rest ≡ more ++ xs)
      (two : length xs ≡ 2) where
    front : ws ≡ more ++ (xs ++ m.behind)
    front = m.there ∙ ap (λ (v : List ℕ). v ++ m.behind) d ∙ append_assoc more xs m.behind

    before : length more ≡ 2 * (m.symbols - 1)
    before = omega (arith, ap length d, length-append more xs, m.long)

    pub some_left : 0 < m.symbols
    some_left = omega (arith, ap length d, length-append more xs, m.long)

    within : (t : Term) → Fillable ps ws b t → m.symbols ≤ size t
    within t f = omega (arith, symbols_built ps ws few t a b f inside, m.long, ap length m.there, length-append rest m.behind)

    symbol_before : (y : Maybe Symbol) → SymbolAt xs 0 y → SymbolAt ws (2 * (m.symbols - 1)) y
    symbol_before y s = subst (λ (i : ℕ). SymbolAt ws i y) before (chunk_symbol ws xs m.behind (length more)
        (ap (drop (length more)) front ∙ drop-append_seam more (xs ++ m.behind)) two y s)

    pub row_symbol : ((t : Term) × Fillable ps ws b t) → (y : Maybe Symbol) → SymbolAt xs 0 y → IsSome y
    row_symbol (t, f) y s = symbol_there ps ws t m.symbols f.row some_left
        (omega (arith, symbols_built ps ws few t a b f inside, within t f)) y (symbol_before y s)

    pub turn_there : (y : Symbol) → SymbolAt xs 0 (Some y) → (t : Term) (f : Fillable ps ws b t) →
        Turn a ps y b st q (after (m.symbols - 1) (and1 t none1))
    turn_there y s t f = turn ps ws few t a b f inside m.symbols st q some_left (within t f) (m.built t f) (Some y) y refl
        (symbol_before (Some y) s)

    pub built_next : (y : Symbol) → SymbolAt xs 0 (Some y) → (su : Store) (r : List Place) → SymbolBuilt ps y b st q su r →
        BuiltTo ps ws b a more su r
    built_next y s su r made = record {
      symbols = m.symbols - 1;
      behind = xs ++ m.behind;
      long = before;
      there = front;
      built = λ t f. built_more ps ws few t a b f inside m.symbols st q (m.built t f) some_left (turn_there y s t f) su r made;
    }

-- where the first symbol is left out
pub two_words : (ps ws : List ℕ) (b : Bindings) → ((t : Term) × Fillable ps ws b t) → 2 ≤ length ws
two_words ps ws b (t, f) = omega (arith, symbols f.row, size_some t)

pub behind_next : (ws : List ℕ) {rest : List ℕ} → (more xs : List ℕ) → rest ≡ more ++ xs → take 2 ws ++ rest ≡ (take 2 ws ++ more) ++ xs
behind_next ws more xs d = ap (λ (v : List ℕ). take 2 ws ++ v) d ∙ sym (append_assoc (take 2 ws) more xs)

module _ {ps ws : List ℕ} {b : Bindings} {a : Store} where
  pub behind_from : FewParts ps → AllInside a b → (some : (t : Term) × Fillable ps ws b t) → (before rest : List ℕ) →
      take (length ws - 2) (drop 2 ws) ≡ before ++ rest → length before ≡ length (take (length ws - 2) (drop 2 ws)) % 2 →
      (q : List Place) → q ≡ [] → BuiltTo ps ws b a (take 2 ws ++ rest) a q
  behind_from few inside (t, f) before rest d odd q e =
      let all : take (length ws - 2) (drop 2 ws) ≡ drop 2 ws = take_rest ws 2 in
      let even : length ws ≡ 2 * size t = symbols f.row in
      let left : length (take (length ws - 2) (drop 2 ws)) ≡ length ws - 2 = ap length all ∙ length-drop 2 ws in
      let none : before ≡ [] = nil_from_length before (omega (arith, size_some t)) in
      let is : ws ≡ take 2 ws ++ rest = sym (take-append-drop 2 ws)
      ∙ ap (λ (v : List ℕ). take 2 ws ++ v) (sym all ∙ d ∙ ap (λ (v : List ℕ). v ++ rest) none) in
      built_from few inside (t, f) [] (take 2 ws ++ rest) is (omega (arith, even)) q e

  pub behind_end : (rest : List ℕ) {st : Store} {q : List Place} → BuiltTo ps ws b a (take 2 ws ++ rest) st q → length rest < 2 →
      (t : Term) → Fillable ps ws b t → BehindBuilt a b t st q
  behind_end rest {st = st} {q = q} m short t f =
      let two : length (take 2 ws) ≡ 2 = length-take-le 2 ws (two_words ps ws b (t, f)) in
      let z : m.symbols ≡ 1 = omega (arith, m.long, length-append (take 2 ws) rest) in
      behind_built t a b st q (subst (λ (k : ℕ). SoBuilt t a b k st q) z (m.built t f))

-- no chunk is left
pub built_end : {ps ws rest : List ℕ} {b : Bindings} {a st : Store} {q : List Place} → BuiltTo ps ws b a rest st q → length rest < 2 →
    (t : Term) → Fillable ps ws b t → SoBuilt t a b 0 st q
built_end {ps} {ws} {rest} {b} {a} {st} {q} m short t f =
    let z : m.symbols ≡ 0 = omega (arith, m.long) in
    subst (λ (k : ℕ). SoBuilt t a b k st q) z (m.built t f)
