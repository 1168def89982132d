-- Slots: how a slot stands for a term. Cell 0 is its head, with the kind and the flag; cells 1 to 4 are the places of its parts.
-- Cells 5 and 6 are for the chains: the slot before it in its bucket, and the last slot of the bucket of its number.
-- Cell 7 is a note, free between collections; a collection has there a mark, and then where the slot moved to.
use Rattle.std.specs.Prelude.{◌≡◌, ℕ, zero, suc, ◌+◌, ◌-◌, ◌*◌, ◌/◌, ◌%◌, ◌<◌, ◌≤◌, Bool, List, length, ◌≢◌, nat_le, slice_index}
use Rattle.rewriting.specs.Terms.{Term, letter, sign, Terms, none1, and1}
use Rattle.store.specs.Cells.{cell}

-- a kind: the number of the letter or sign below 2^32; above it 0 for a letter, n + 1 for a sign of n parts
unfoldable pub symbol_of : ℕ → ℕ
symbol_of k = k % 4294967296

unfoldable pub tag_of : ℕ → ℕ
tag_of k = k / 4294967296

abbrev pub arity_of : ℕ → ℕ
arity_of k = tag_of k - 1

-- a head: the kind, below 2^35, and the flag above it
unfoldable pub kind_of : ℕ → ℕ
kind_of h = h % 34359738368

unfoldable pub flag_of : ℕ → Bool
flag_of h = nat_le 34359738368 h

-- what slot i says
abbrev pub kind_at : List ℕ → ℕ → ℕ
kind_at ws i = kind_of (cell ws i 0)

abbrev pub arity_at : List ℕ → ℕ → ℕ
arity_at ws i = arity_of (kind_at ws i)

abbrev pub part_at : List ℕ → ℕ → ℕ → ℕ
part_at ws i k = cell ws i (k + 1)

abbrev pub link_at : List ℕ → ℕ → ℕ
link_at ws i = cell ws i 5

abbrev pub last_at : List ℕ → ℕ → ℕ
last_at ws b = cell ws b 6

abbrev pub note_at : List ℕ → ℕ → ℕ
note_at ws i = cell ws i 7

-- the term of a kind k and parts p 0, p 1, .., where d says what terms these are
abbrev pub parts_by : (ℕ → Term) → (ℕ → ℕ) → ℕ → ℕ → Terms
parts_by d p k zero = none1
parts_by d p k (suc n) = and1 (d (p k)) (parts_by d p (k + 1) n)

abbrev pub node_by : (ℕ → Term) → (ℕ → ℕ) → ℕ → ℕ → Term
node_by d p s zero = letter s
node_by d p s (suc n) = sign s (parts_by d p 0 n)

unfoldable pub node : (ℕ → Term) → ℕ → (ℕ → ℕ) → Term
node d k p = node_by d p (symbol_of k) (tag_of k)

-- the term of slot i, of kinds and parts, down to a number of layers; i + 1 layers are all that there are
unfoldable pub term_by : ℕ → (ℕ → ℕ) → (ℕ → ℕ → ℕ) → ℕ → Term
term_by zero kinds parts i = letter 0
term_by (suc f) kinds parts i = node (term_by f kinds parts) (kinds i) (parts i)

unfoldable pub term_of : List ℕ → ℕ → Term
term_of ws i = term_by (suc i) (λ j. kind_at ws j) (λ j k. part_at ws j k) i

-- c slots, the parts of each before it
pub record Shape (ws : List ℕ) (c : ℕ) : Type 0 where
  pub fits : 16 * c ≤ length ws
  pub tags : (i : ℕ) → i < c → tag_of (kind_at ws i) ≤ 5
  pub below : (i k : ℕ) → i < c → k < arity_at ws i → part_at ws i k < i

-- and no term twice
pub record Shared (ws : List ℕ) (c : ℕ) : Type 0 where
  pub shape : Shape ws c
  pub once : (i j : ℕ) → i < j → j < c → term_of ws i ≢ term_of ws j

-- the first k parts of slot n are written, and no other cell
pub record PartsWritten (vs : List ℕ) (n : ℕ) (ps : List ℕ) (k : ℕ) (ws : List ℕ) : Type 0 where
  pub parts : (m : ℕ) → m < k → part_at ws n m ≡ slice_index ps m
  pub rest : (j m : ℕ) → m < 8 → (j ≡ n → 1 ≤ m → m < 5 → ⊥) → cell ws j m ≡ cell vs j m

-- the first c slots have the same kinds and parts
pub record Alike (vs ws : List ℕ) (c : ℕ) : Type 0 where
  pub kinds : (j : ℕ) → j < c → kind_at ws j ≡ kind_at vs j
  pub parts : (j k : ℕ) → j < c → k < 4 → part_at ws j k ≡ part_at vs j k

-- no cell but notes is changed
abbrev pub SameNodes : List ℕ → List ℕ → Type 0
SameNodes vs ws = (j k : ℕ) → k < 7 → cell ws j k ≡ cell vs j k
