-- Classes of places. Each place has a label, the place by which its class is known; a class with signs is known by one of them.
use Rattle.std.specs.Prelude.{◌≡◌, ℕ, zero, suc, ◌+◌, ◌<◌, cond, Some, None, Option as Maybe, Ok, Err, Result, MatchResult, ◌==◌, ◌≢◌}
use Rattle.std.specs.Prelude.{slice_index_or}
use denote.Struct.Props as logic
use Rattle.rewriting.specs.Terms.{Term, letter, sign, Terms, none1, and1, put}
use Rattle.store.specs.declared.types.Store.{Store}
use Rattle.store.specs.declared.types.Place.{Place}
use Rattle.store.specs.Stores.{term_in, part_in}
use Rattle.unification.specs.declared.types.Classes.{Classes}
use Rattle.unification.specs.declared.types.Clash.{Clash}

-- the label of place i
abbrev pub label : Classes → ℕ → ℕ
label c i = (slice_index_or c.labels i (record { 0 = 0 })).0

abbrev pub IsSign : Term → Type 0
IsSign (letter x) = ⊥
IsSign (sign f ts) = Unit {0}

IsSign-prop : (t : Term) → IsProp (IsSign t)
IsSign-prop (letter x) = Prim.hlevel
IsSign-prop (sign f ts) = Prim.hlevel

-- the first n places have labels among them
pub record Labelled (st : Store) (n : ℕ) (c : Classes) : Type 0 where
  pub low : (i : ℕ) → i < n → label c i < n
  pub own : (i : ℕ) → i < n → label c (label c i) ≡ label c i
  pub signs : (i : ℕ) → i < n → IsSign (term_in st i) → IsSign (term_in st (label c i))

-- that has one proof at most
pub Labelled-prop : (st : Store) (n : ℕ) (c : Classes) → IsProp (Labelled st n c)
Labelled-prop st n c = Prim.hlevel (IsSign-prop, logic.props)

-- a replacement makes the terms of each class one
abbrev pub Respects : Store → ℕ → Classes → (ℕ → Term) → Type 0
Respects st n c r = (i : ℕ) → i < n → put r (term_in st i) ≡ put r (term_in st (label c i))

-- how many of the first n places are labels
abbrev pub class_count : Classes → ℕ → ℕ
class_count c zero = 0
class_count c (suc n) = cond (label c n == n) 1 0 + class_count c n

-- what had the label a has the label b, and the rest is as it was
pub record Relabelled (c : Classes) (a b : ℕ) (d : Classes) : Type 0 where
  pub moved : (i : ℕ) → i < 96 → label c i ≡ a → label d i ≡ b
  pub kept : (i : ℕ) → i < 96 → (label c i ≢ a) → label d i ≡ label c i

-- the classes of i and j are one, and no others are changed
pub record Merged (st : Store) (c : Classes) (i j : ℕ) (d : Classes) : Type 0 where
  pub labelled : Labelled st st.count d
  pub one : label d i ≡ label d j
  pub coarser : (k l : ℕ) → k < st.count → l < st.count → label c k ≡ label c l → label d k ≡ label d l
  pub respects : (r : ℕ → Term) → Respects st st.count c r → put r (term_in st i) ≡ put r (term_in st j) → Respects st st.count d r
  pub fewer : (label c i ≢ label c j) → class_count d st.count < class_count c st.count

-- two rows of terms are pairwise in R
abbrev pub Each : (Term → Term → Type 0) → Terms → Terms → Type 0
Each R none1 none1 = Unit {0}
Each R none1 (and1 u us) = ⊥
Each R (and1 t ts) none1 = ⊥
Each R (and1 t ts) (and1 u us) = R t u × Each R ts us

-- two terms stand at places of one class
pub record SameClass (st : Store) (n : ℕ) (c : Classes) (t u : Term) : Type 0 where
  pub i : ℕ
  pub j : ℕ
  pub low_i : i < n
  pub low_j : j < n
  pub is_i : term_in st i ≡ t
  pub is_j : term_in st j ≡ u
  pub one : label c i ≡ label c j

-- if a sign stands at place i, its class is known by the same sign, and their parts are pairwise in one class
abbrev pub ClosedAt : Store → ℕ → Classes → ℕ → Type 0
ClosedAt st n c i = (f : ℕ) (ts : Terms) → term_in st i ≡ sign f ts →
    (us : Terms) × (term_in st (label c i) ≡ sign f us) × Each (SameClass st n c) ts us

-- no replacement respects the classes
abbrev pub NoneRespects : Store → ℕ → Classes → Type 0
NoneRespects st n c = (r : ℕ → Term) → Respects st n c r → ⊥

-- two places of different classes, whose terms become one by whatever respects the classes
pub record Forced (st : Store) (c : Classes) (p q : Place) : Type 0 where
  pub first : p.0 < st.count
  pub second : q.0 < st.count
  pub differ : label c p.0 ≡ label c q.0 → ⊥
  pub become : (r : ℕ → Term) → Respects st st.count c r → put r (term_in st p.0) ≡ put r (term_in st q.0)

-- what was found at place i, and at all places
abbrev pub CheckedAt : Store → Classes → ℕ → Result (Maybe (Place × Place)) Clash → Type 0
CheckedAt st c i (Err e) = NoneRespects st st.count c
CheckedAt st c i (Ok (Some (p, q))) = Forced st c p q
CheckedAt st c i (Ok None) = ClosedAt st st.count c i

abbrev pub Checked : Store → Classes → Result (Maybe (Place × Place)) Clash → Type 0
Checked st c (Err e) = NoneRespects st st.count c
Checked st c (Ok (Some (p, q))) = Forced st c p q
Checked st c (Ok None) = (i : ℕ) → i < st.count → ClosedAt st st.count c i

-- the first part at which the classes of two signs' parts differ, if any
pub record DifferAt (st : Store) (c : Classes) (i j n k : ℕ) : Type 0 where
  pub low : k < n
  pub differ : label c (part_in st i k) ≡ label c (part_in st j k) → ⊥

abbrev pub FirstDifference : Store → Classes → ℕ → ℕ → ℕ → Maybe ℕ → Type 0
FirstDifference st c i j n (Some k) = DifferAt st c i j n k
FirstDifference st c i j n None = (k : ℕ) → k < n → label c (part_in st i k) ≡ label c (part_in st j k)

-- classes that came of others by merging what has to be one
pub record Coarser (st : Store) (c d : Classes) : Type 0 where
  pub labelled : Labelled st st.count d
  pub coarser : (k l : ℕ) → k < st.count → l < st.count → label c k ≡ label c l → label d k ≡ label d l
  pub respects : (r : ℕ → Term) → Respects st st.count c r → Respects st st.count d r

-- and closed; or no replacement respects those that there were
pub record CoarserClosed (st : Store) (c d : Classes) : Type 0 where
  pub merged : Coarser st c d
  pub closed : (i : ℕ) → i < st.count → ClosedAt st st.count d i

abbrev pub Saturated : Store → Classes → Classes → Result (Unit {0}) Clash → Type 0
Saturated st c d r = MatchResult r (λ _. CoarserClosed st c d) (λ _. NoneRespects st st.count c)

-- closed classes with p and q in one, which what makes their terms one respects; or nothing makes them one
pub record Closure (st : Store) (p q : Place) (c : Classes) : Type 0 where
  pub labelled : Labelled st st.count c
  pub together : label c p.0 ≡ label c q.0
  pub respects : (r : ℕ → Term) → put r (term_in st p.0) ≡ put r (term_in st q.0) → Respects st st.count c r
  pub closed : (i : ℕ) → i < st.count → ClosedAt st st.count c i

abbrev pub ClosureOf : Store → Place → Place → Result Classes Clash → Type 0
ClosureOf st p q c = MatchResult c (λ d. Closure st p q d) (λ _. (r : ℕ → Term) → put r (term_in st p.0) ≢ put r (term_in st q.0))
