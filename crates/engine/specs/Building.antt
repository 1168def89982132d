-- Building instances of terms from their rows, from the last symbol to the first.
use Rattle.std.specs.Prelude.{◌≡◌, ℕ, ◌+◌, ◌-◌, ◌<◌, ◌≤◌, List, length, get_or, ◌≢◌, slice_index, slice_index_or, take}
use Rattle.rewriting.specs.Terms.{Term, letter as letter1, sign as sign1, Terms, and1, glue, count, size, put, puts, In}
use Rattle.books.specs.declared.words.Symbol.{Symbol}
use Rattle.books.specs.declared.words.Symbol.TheVariants.{Letter, Sign}
use Rattle.store.specs.declared.types.Store.{Store}
use Rattle.store.specs.declared.types.Place.{Place}
use Rattle.store.specs.Stores.{Sound, Grown, term_in}
use Rattle.store.specs.Making.{terms_at, PartsInside}
use Rattle.store.specs.Transfers.{RowOf, inner}
use Rattle.engine.specs.declared.types.Bindings.{Bindings}
use Rattle.engine.specs.Matching.{put_in, AllInside, Bound, stacked, PlacesInside}

-- part k of n: the last place is taken, if there is such a part
pub record PartTaken (q : List Place) (k n : ℕ) (p : Place) (r : List Place) : Type 0 where
  pub rest : k < n → r ≡ take (length q - 1) q
  pub part : k < n → p ≡ slice_index_or q (length q - 1) (record { 0 = 0 })
  pub same : n ≤ k → r ≡ q

-- the last n places are taken, the last one first
pub record Taken (q : List Place) (n : ℕ) (ps r : List Place) : Type 0 where
  pub rest : r ≡ take (length q - n) q
  pub parts : (k : ℕ) → k < n → slice_index_or ps k (record { 0 = 0 }) ≡ slice_index_or q (length q - 1 - k) (record { 0 = 0 })

-- each letter of a term is bound
abbrev pub AllBound : Bindings → Term → Type 0
AllBound b t = (x : ℕ) → In x t → Bound b x

-- a row over the signature ps whose term t can be built: it has at most 32 letters and signs, and its letters are bound
pub record Fillable (ps ws : List ℕ) (b : Bindings) (t : Term) : Type 0 where
  pub row : RowOf ps ws t
  pub small : size t ≤ 32
  pub low : (x : ℕ) → In x t → x < 32
  pub bound : AllBound b t

-- the sign f has parts enough among the terms that are built
pub record PartsBuilt (ps : List ℕ) (f : ℕ) (q : List Place) : Type 0 where
  pub within : f < length ps
  pub few : get_or ps f 0 ≤ 4
  pub enough : get_or ps f 0 ≤ length q
  pub space : length q < 32 + slice_index ps f

-- what the symbol wants: a letter is bound, and a sign has its parts
abbrev pub Wants : List ℕ → Symbol → Bindings → List Place → Type 0
Wants ps (Letter x) b q = (length q < 32) × (x < 32) × Bound b x
Wants ps (Sign f) b q = PartsBuilt ps f q

-- the symbol y can be built
pub record Buildable (ps : List ℕ) (y : Symbol) (b : Bindings) (st : Store) (q : List Place) : Type 0 where
  pub inside : PlacesInside st q
  pub bound_inside : AllInside st b
  pub symbol : Wants ps y b q

-- no slot that is new holds a letter
abbrev pub SignsAdded : Store → Store → Type 0
SignsAdded st su = (i x : ℕ) → st.count ≤ i → i < su.count → term_in su i ≢ letter1 x

-- one more term: what is put for a letter, or a sign with the next terms as parts
abbrev pub TermMade : List ℕ → Symbol → Bindings → Store → List Place → Store → List Place → Type 0
TermMade ps (Letter x) b st q su r = stacked su r ≡ and1 (put_in st b x) (stacked st q)
TermMade ps (Sign f) b st q su r = (vs us : Terms) → count vs ≡ slice_index ps f →
    stacked st q ≡ glue vs us → stacked su r ≡ and1 (sign1 f vs) us

-- the symbol y is built
pub record SymbolBuilt (ps : List ℕ) (y : Symbol) (b : Bindings) (st : Store) (q : List Place) (su : Store) (r : List Place) : Type 0 where
  pub sound : Sound su
  pub grown : Grown st su
  pub few : su.count ≤ st.count + 1
  pub signs : SignsAdded st su
  pub inside : PlacesInside su r
  pub made : TermMade ps y b st q su r

-- the parts of a term are built from its row, with what is bound put for its letters: all but its first symbol
pub record BehindBuilt (st : Store) (b : Bindings) (t : Term) (su : Store) (q : List Place) : Type 0 where
  pub grown : Grown st su
  pub few : su.count + 1 ≤ st.count + size t
  pub signs : SignsAdded st su
  pub inside : PlacesInside su q
  pub terms : stacked su q ≡ puts (put_in st b) (inner t)

-- the places of its n parts
pub record RowPartsBuilt (st : Store) (b : Bindings) (t : Term) (n : ℕ) (su : Store) (ps : List Place) : Type 0 where
  pub sound : Sound su
  pub grown : Grown st su
  pub few : su.count ≤ st.count + size t
  pub inside : PartsInside su ps n
  pub terms : terms_at su ps n ≡ puts (put_in st b) (inner t)

-- the place of a term that is built from its row, with what is bound put for its letters
pub record RowInstanceBuilt (st : Store) (b : Bindings) (t : Term) (su : Store) (p : Place) : Type 0 where
  pub sound : Sound su
  pub grown : Grown st su
  pub few : su.count ≤ st.count + size t
  pub signs : SignsAdded st su
  pub inside : p.0 < su.count
  pub is : term_in su p.0 ≡ put (put_in st b) t
