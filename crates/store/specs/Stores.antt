-- A store and its roots as a whole.
use Rattle.std.specs.Prelude.{◌≡◌, ℕ, zero, suc, ◌+◌, ◌-◌, ◌*◌, ◌<◌, ◌≤◌, Bool, true, false, length, Some, None, Option, ◌≢◌}
use Rattle.rewriting.specs.Terms.{Term, Terms, letter, sign, none1, and1}
use Rattle.rewriting.specs.Different.{different, listed}
use Rattle.store.specs.declared.types.Store.{Store}
use Rattle.store.specs.declared.types.Roots.{Roots}
use Rattle.store.specs.declared.types.Place.{Place}
use Rattle.store.specs.declared.types.Node.{Node}
use Rattle.store.specs.declared.types.Node.TheVariants.{Letter, Sign}
use Rattle.store.specs.Cells.{cell}
use Rattle.store.specs.Slots.{flag_of, arity_at, part_at, note_at, parts_by, term_of, Shared}
use Rattle.store.specs.Chains.{Chains}
use Rattle.store.specs.Roots.{HasRoots}
use Rattle.store.specs.Stacks.{root_in}

-- a store is sound: its slots stand for different terms, found by its chains, and there is room for as many as its limit
pub record Sound (a : Store) : Type 0 where
  pub shared : Shared a.words.now a.count
  pub chains : Chains a.mask a.words.now a.count
  pub fits : 16 * a.room ≤ length a.words.now
  pub within : a.count ≤ a.limit
  pub limited : a.limit ≤ a.room
  pub some : 0 < a.limit

-- at place i: the term, how many parts it has and their places, the flag that says normal, and the note
abbrev pub term_in : Store → ℕ → Term
term_in a i = term_of a.words.now i

abbrev pub arity_in : Store → ℕ → ℕ
arity_in a i = arity_at a.words.now i

abbrev pub part_in : Store → ℕ → ℕ → ℕ
part_in a i k = part_at a.words.now i k

abbrev pub parts_in : Store → ℕ → ℕ → Terms
parts_in a i n = parts_by (λ j. term_in a j) (λ k. part_in a i k) 0 n

abbrev pub flag_in : Store → ℕ → Bool
flag_in a i = flag_of (cell a.words.now i 0)

abbrev pub note_in : Store → ℕ → ℕ
note_in a i = note_at a.words.now i

-- the place in a note, or none
abbrev pub note_of : Option Place → ℕ
note_of None = 0
note_of (Some p) = p.0 + 1

-- what is seen at a place
abbrev pub Shows : Store → ℕ → Node → Type 0
Shows a i (Letter x) = (arity_in a i ≡ 0) × (term_in a i ≡ letter x)
Shows a i (Sign f n) = (n ≤ 4) × (arity_in a i ≡ n) × (term_in a i ≡ sign f (parts_in a i n))

-- no slot is added or lost, and each stands for the term that it did
pub record SameTerms (a b : Store) : Type 0 where
  pub room : b.room ≡ a.room
  pub count : b.count ≡ a.count
  pub terms : (i : ℕ) → i < a.count → term_in b i ≡ term_in a i

-- the flag of slot i is set, and nothing else is changed
pub record FlagSet (a : Store) (i : ℕ) (b : Store) : Type 0 where
  pub sound : Sound b
  pub same : SameTerms a b
  pub flag : flag_in b i ≡ true
  pub flags : (j : ℕ) → j < a.count → (j ≢ i) → flag_in b j ≡ flag_in a j
  pub notes : (j : ℕ) → j < a.count → note_in b j ≡ note_in a j

-- the note of slot i is v, and nothing else is changed
pub record NoteSet (a : Store) (i v : ℕ) (b : Store) : Type 0 where
  pub sound : Sound b
  pub same : SameTerms a b
  pub note : note_in b i ≡ v
  pub notes : (j : ℕ) → j < a.count → (j ≢ i) → note_in b j ≡ note_in a j
  pub flags : (j : ℕ) → j < a.count → flag_in b j ≡ flag_in a j

-- what was there is there, and a slot that is new has neither flag nor note
pub record Grown (a b : Store) : Type 0 where
  pub room : b.room ≡ a.room
  pub limit : b.limit ≡ a.limit
  pub longer : a.count ≤ b.count
  pub terms : (i : ℕ) → i < a.count → term_in b i ≡ term_in a i
  pub flags : (i : ℕ) → i < a.count → flag_in b i ≡ flag_in a i
  pub notes : (i : ℕ) → i < a.count → note_in b i ≡ note_in a i
  pub new_flags : (i : ℕ) → a.count ≤ i → i < b.count → flag_in b i ≡ false
  pub new_notes : (i : ℕ) → a.count ≤ i → i < b.count → note_in b i ≡ 0

-- a note of slot m is a note of what was slot i, for the same term
abbrev pub NoteKept : Store → ℕ → Store → ℕ → Type 0
NoteKept a i b m = 0 < note_in b m → (0 < note_in a i) ×
    (note_in a i ≤ a.count → (note_in b m ≤ b.count) × (term_in b (note_in b m - 1) ≡ term_in a (note_in a i - 1)))

-- slot m is new, with neither flag nor note, or was slot i of a, with the same flag
pub data Origin (a b : Store) (m : ℕ) : Type 0 where
  new : flag_in b m ≡ false → note_in b m ≡ 0 → Origin a b m
  old : (i : ℕ) → i < a.count → term_in b m ≡ term_in a i → flag_in b m ≡ flag_in a i → NoteKept a i b m → Origin a b m

-- flags and notes of all slots go back to slots of a for the same terms
abbrev pub Carried : Store → Store → Type 0
Carried a b = (m : ℕ) → m < b.count → Origin a b m

-- the term that root k holds; how many different parts the roots' terms have
abbrev pub held : Store → Roots → ℕ → Term
held a r k = term_in a (root_in r k)

abbrev pub parts_held : Store → Roots → ℕ
parts_held a r = different (listed (λ k. held a r k) r.top)

-- the terms of n roots, from one on: the lowest first, and the uppermost first
abbrev pub terms_up : Store → Roots → ℕ → ℕ → Terms
terms_up a r from1 n = parts_by (λ j. term_in a j) (λ k. root_in r (from1 + k)) 0 n

abbrev pub terms_down : Store → Roots → ℕ → ℕ → Terms
terms_down a r from1 zero = none1
terms_down a r from1 (suc n) = and1 (held a r (from1 + n)) (terms_down a r from1 n)

-- the roots are places of the store
pub record Inside (a : Store) (r : Roots) : Type 0 where
  pub fits : HasRoots r.cells.now r.top
  pub low : (k : ℕ) → k < r.top → root_in r k < a.count

-- the roots hold what they held
pub record RootsKept (a : Store) (q : Roots) (b : Store) (r : Roots) : Type 0 where
  pub top : r.top ≡ q.top
  pub long : length r.cells.now ≡ length q.cells.now
  pub inside : Inside b r
  pub terms : (k : ℕ) → k < q.top → held b r k ≡ held a q k
