-- What comes of reading a row into a store and of writing one out.
use Rattle.std.specs.Prelude.{◌≡◌, ℕ, ◌+◌, ◌-◌, ◌*◌, ◌<◌, ◌≤◌, List, ◌∷◌, ◌++◌, length, take, Ok, Err, Result, slice_index, slice_set}
use Rattle.rewriting.specs.Terms.{Term, letter, sign, Terms, none1, count, size, Fits}
use Rattle.rewriting.specs.Different.{different, listed}
use Rattle.books.specs.declared.words.Symbol.{Symbol}
use Rattle.books.specs.declared.words.Symbol.TheVariants.{Letter, Sign}
use Rattle.books.specs.Rows.{row}
use Rattle.store.specs.declared.types.Store.{Store}
use Rattle.store.specs.declared.types.Roots.{Roots}
use Rattle.store.specs.declared.types.Full.{Full}
use Rattle.store.specs.declared.types.Full.TheVariants.{NoSlot, NoRoot}
use Rattle.store.specs.declared.types.Short.{Short}
use Rattle.store.specs.declared.types.Short.TheVariants.{NoWord, NoCell}
use Rattle.store.specs.Roots.{HasRoots}
use Rattle.store.specs.Slots.{parts_by}
use Rattle.store.specs.Stacks.{root_in}
use Rattle.store.specs.Stores.{Sound, Carried, term_in, part_in, held, terms_down, Inside, RootsKept}
use Rattle.store.specs.Making.{Stacked}

-- the words are the row of t, over the signature ps
pub record RowOf (ps ws : List ℕ) (t : Term) : Type 0 where
  pub written : row t ≡ ws
  pub fits : Fits ps t

-- how many parts a symbol takes from the roots, and the term that it makes of them
abbrev pub takes : List ℕ → Symbol → ℕ
takes ps (Letter x) = 0
takes ps (Sign f) = slice_index ps f

abbrev pub symbol_term : Store → Roots → ℕ → Symbol → Term
symbol_term a r n (Letter x) = letter x
symbol_term a r n (Sign f) = sign f (terms_down a r (r.top - n) n)

-- a symbol can be read: if it is a sign, it is of the signature, and its parts stand on the roots
abbrev pub Readable : List ℕ → Roots → Symbol → Type 0
Readable ps r (Letter x) = Unit {0}
Readable ps r (Sign f) = (f < length ps) × (slice_index ps f ≤ 4) × (slice_index ps f ≤ r.top)

-- one more root, which holds t; or the roots as they were, where the different parts of t and of what the roots hold fill the store,
-- or where there are not as many cells for roots as t has letters and signs
abbrev pub ReadOrFull : Store → Roots → Term → Store → Roots → Result (Unit {0}) Full → Type 0
ReadOrFull a q t b r (Ok _) = Stacked a q q.top t b r
ReadOrFull a q t b r (Err NoSlot) = RootsKept a q b r × (a.room ≤ different (t ∷ listed (λ k. held a q k) q.top))
ReadOrFull a q t b r (Err NoRoot) = RootsKept a q b r × (HasRoots q.cells.now (q.top + size t) → ⊥)

-- t was read
pub record Read (a : Store) (q : Roots) (t : Term) (b : Store) (r : Roots) (x : Result (Unit {0}) Full) : Type 0 where
  pub sound : Sound b
  pub room : b.room ≡ a.room
  pub carried : Carried a b
  pub roots : ReadOrFull a q t b r x

-- the parts of a term, and the two words of its symbol
abbrev pub inner : Term → Terms
inner (letter x) = none1
inner (sign f ts) = ts

abbrev pub tag_word : Term → ℕ
tag_word (letter x) = 0
tag_word (sign f ts) = 1

abbrev pub number_word : Term → ℕ
number_word (letter x) = x
number_word (sign f ts) = f

-- n more roots: the terms of the parts of place i from part k on, the first uppermost
pub record PartsPushed (a : Store) (q : Roots) (i k n : ℕ) (r : Roots) : Type 0 where
  pub long : length r.cells.now ≡ length q.cells.now
  pub top : r.top ≡ q.top + n
  pub fits : HasRoots r.cells.now r.top
  pub low : (j : ℕ) → q.top ≤ j → j < r.top → root_in r j < a.count
  pub rest : (j : ℕ) → j < q.top → root_in r j ≡ root_in q j
  pub is : terms_down a r q.top n ≡ parts_by (λ j. term_in a j) (λ m. part_in a i m) k n

-- that, or what roots there were and too few cells
abbrev pub PartsOrFull : Store → Roots → ℕ → ℕ → Roots → Result (Unit {0}) Full → Type 0
PartsOrFull a q i n r (Ok _) = PartsPushed a q i 0 n r
PartsOrFull a q i n r (Err _) = (length r.cells.now ≡ length q.cells.now) ×
    ((j : ℕ) → j < q.top → root_in r j ≡ root_in q j) × (HasRoots q.cells.now (q.top + n) → ⊥)

-- the uppermost root gave way to those of its parts
pub record SymbolWritten (a : Store) (q : Roots) (r : Roots) : Type 0 where
  pub inside : Inside a r
  pub top : r.top ≡ q.top - 1 + count (inner (held a q (q.top - 1)))
  pub is : terms_down a r (q.top - 1) (count (inner (held a q (q.top - 1)))) ≡ inner (held a q (q.top - 1))

-- its symbol is written at a place; or nothing is, and what is wanting
abbrev pub SymbolOrShort : Store → Roots → List ℕ → ℕ → Roots → List ℕ → Result (Unit {0}) Short → Type 0
SymbolOrShort a q vs at r ws (Ok _) = SymbolWritten a q r × (at + 2 ≤ length vs) ×
    (ws ≡ slice_set (slice_set vs at (tag_word (held a q (q.top - 1)))) (at + 1) (number_word (held a q (q.top - 1))))
SymbolOrShort a q vs at r ws (Err NoWord) = (ws ≡ vs) × (length vs < at + 2)
SymbolOrShort a q vs at r ws (Err NoCell) = (ws ≡ vs) ×
    (HasRoots q.cells.now (q.top - 1 + count (inner (held a q (q.top - 1)))) → ⊥)

-- the first n roots are as they were
pub record RootsBelow (n : ℕ) (q r : Roots) : Type 0 where
  pub long : length r.cells.now ≡ length q.cells.now
  pub rest : (j : ℕ) → j < n → root_in r j ≡ root_in q j

-- a beginning of the row of t is written, and the words behind it are as they were
pub record Begun (t : Term) (vs ws : List ℕ) : Type 0 where
  pub words : ℕ
  pub unwritten : List ℕ
  pub is : take words ws ++ unwritten ≡ row t
  pub tail : (j : ℕ) → words ≤ j → slice_index ws j ≡ slice_index vs j

-- the row of t is the first n words, and the others are as they were; or what is wanting: words, or cells for roots
abbrev pub WrittenOrShort : Roots → Term → List ℕ → List ℕ → Result ℕ Short → Type 0
WrittenOrShort q t vs ws (Ok n) = (n ≡ 2 * size t) × (take n ws ≡ row t) × ((j : ℕ) → n ≤ j → slice_index ws j ≡ slice_index vs j)
WrittenOrShort q t vs ws (Err NoWord) = Begun t vs ws × (length vs < 2 * size t)
WrittenOrShort q t vs ws (Err NoCell) = Begun t vs ws × (HasRoots q.cells.now (q.top + size t) → ⊥)
