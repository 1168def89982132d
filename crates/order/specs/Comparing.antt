-- The terms that stand in a rule's sides, and how they compare.
use Rattle.std.specs.Prelude.{◌≡◌, ℕ, ◌+◌, ◌-◌, ◌<◌, ◌≤◌, Bool, ◌⊎◌, List, ◌++◌, length, take, drop, Some, None, Option as Maybe, slice_index}
use Rattle.rewriting.specs.Terms.{Term, letter, sign, Terms, none1, and1, count, Ok, AllOver, SmallLetter}
use Rattle.rewriting.specs.Order.{Rank, rank, Greater, SomeAtLeast, AllLess, FirstGreater}
use Rattle.rewriting.specs.Answers.{Tells}
use Rattle.books.specs.Rows.{row, rows}
use Rattle.order.specs.declared.terms.Comparison.{Comparison}
use Rattle.order.specs.declared.terms.Parts.{Parts}
use Rattle.order.specs.declared.terms.Head.{Head}
use Rattle.order.specs.declared.table.Table.{Table}
use Rattle.order.specs.Tables.{Celled, cell}

-- the precedence
abbrev pub by : Comparison → Rank
by p = rank p.ranks.now

-- the term t, over the signature ps, stands in the words ws from place k on
pub record Stands (ps ws : List ℕ) (k : ℕ) (t : Term) : Type 0 where
  pub over : Ok ps t
  pub rest : List ℕ
  pub written : drop k ws ≡ row t ++ rest

-- the terms ts stand there, one after the other
pub record Stand (ps ws : List ℕ) (p : Parts) (ts : Terms) : Type 0 where
  pub counted : count ts ≡ p.count
  pub over : AllOver SmallLetter ps ts
  pub rest : List ℕ
  pub written : drop p.start ws ≡ rows ts ++ rest

-- a term and some terms on a rule's left side, and on its right side
abbrev pub OnLeft : Comparison → ℕ → Term → Type 0
OnLeft p = Stands p.parts.now p.left.now

abbrev pub OnRight : Comparison → ℕ → Term → Type 0
OnRight p = Stands p.parts.now p.right.now

abbrev pub AllOnLeft : Comparison → Parts → Terms → Type 0
AllOnLeft p = Stand p.parts.now p.left.now

abbrev pub AllOnRight : Comparison → Parts → Terms → Type 0
AllOnRight p = Stand p.parts.now p.right.now

-- the sign that stands at place k, with its parts behind it; or that a letter stands there
abbrev pub Headed : List ℕ → List ℕ → ℕ → Maybe Head → Type 0
Headed ps ws k (Some h) = (k + 2 ≤ length ws) × (h.parts.start ≡ k + 2) × (h.parts.count ≡ slice_index ps h.sign)
    × ((t : Term) → Stands ps ws k t → (ts : Terms) × (t ≡ sign h.sign ts) × Stand ps ws h.parts ts)
Headed ps ws k None = (t : Term) → Stands ps ws k t → (x : ℕ) × (t ≡ letter x)

-- the first of some terms, and the others behind it
pub record Split (ps ws : List ℕ) (p q : Parts) (ts : Terms) : Type 0 where
  pub first : Term
  pub others : Terms
  pub both : ts ≡ and1 first others
  pub there : Stands ps ws p.start first
  pub behind : Stand ps ws q others

-- where the others stand, or that there are no terms
abbrev pub Splits : List ℕ → List ℕ → Parts → Maybe Parts → Type 0
Splits ps ws p (Some q) = (p.start < q.start) × (q.start ≤ length ws) × ((ts : Terms) → Stand ps ws p ts → Split ps ws p q ts)
Splits ps ws p None = (ts : Terms) → Stand ps ws p ts → ts ≡ none1

-- where the others stand, and the words of the first before them; or that there are no terms
abbrev pub SplitsByWords : List ℕ → List ℕ → Parts → Maybe Parts → Type 0
SplitsByWords ps ws p (Some q) = Splits ps ws p (Some q)
    × ((t : Term) → Stands ps ws p.start t → take (q.start - p.start) (drop p.start ws) ≡ row t)
SplitsByWords ps ws p None = Splits ps ws p None

-- the terms at two places are the same, or not
abbrev pub Equates : Comparison → ℕ → ℕ → Bool → Type 0
Equates p k j r = (t u : Term) → OnLeft p k t → OnRight p j u → Tells r (t ≡ u)

-- the term at one place is greater than that at another, or not
abbrev pub Compares : Comparison → ℕ → ℕ → Bool → Type 0
Compares p k j r = (t u : Term) → OnLeft p k t → OnRight p j u → Tells r (Greater (by p) t u)

-- one of some terms is the one at place j or greater, or none is
abbrev pub Covers : Comparison → Parts → ℕ → Bool → Type 0
Covers p a j r = (ts : Terms) (u : Term) → AllOnLeft p a ts → OnRight p j u → Tells r (SomeAtLeast (by p) ts u)

-- the term at place k is greater than each of some terms, or not
abbrev pub Exceeds : Comparison → ℕ → Parts → Bool → Type 0
Exceeds p k b r = (t : Term) (us : Terms) → OnLeft p k t → AllOnRight p b us → Tells r (AllLess (by p) t us)

-- `FirstGreater` of some terms each is that of the terms at a and b
pub record SameFirst (p : Comparison) (a b : Parts) (ts us : Terms) : Type 0 where
  pub vs : Terms
  pub ws : Terms
  pub left : AllOnLeft p a vs
  pub right : AllOnRight p b ws
  pub to : FirstGreater (by p) ts us → FirstGreater (by p) vs ws
  pub from : FirstGreater (by p) vs ws → FirstGreater (by p) ts us

abbrev pub Skips : Comparison → Parts → Parts → Parts → Parts → Type 0
Skips p m n a b = (m.start ≤ a.start) × (n.start ≤ b.start)
    × ((ts us : Terms) → AllOnLeft p m ts → AllOnRight p n us → SameFirst p a b ts us)

-- where the first terms stand that differ
abbrev pub DifferAt : Comparison → Parts → Parts → Maybe (ℕ × ℕ) → Type 0
DifferAt p m n (Some q) = (m.start ≤ q.0) × (n.start ≤ q.1)
    × ((r : Bool) → Compares p q.0 q.1 r → (ts us : Terms) → AllOnLeft p m ts → AllOnRight p n us → Tells r (FirstGreater (by p) ts us))
DifferAt p m n None = (ts us : Terms) → AllOnLeft p m ts → AllOnRight p n us → FirstGreater (by p) ts us → ⊥

-- a sign of higher rank, or the same sign with greater first parts that differ; or not
abbrev pub Before : Rank → ℕ → ℕ → Terms → Terms → Type 0
Before rk f g ts us = (rk g < rk f) ⊎ ((f ≡ g) × FirstGreater rk ts us)

abbrev pub Precedes : Comparison → Head → Head → Bool → Type 0
Precedes p f g r = (ts us : Terms) → AllOnLeft p f.parts ts → AllOnRight p g.parts us → Tells r (Before (by p) f.sign g.sign ts us)

-- each remembered answer is right
abbrev pub Truthful : Comparison → Table → Type 0
Truthful p tb = (k j : ℕ) (b : Bool) → Celled k j → cell tb k j ≡ Some b → Compares p k j b
