-- What the two calls promise: what each answer says, when room is wanting, and the theorems that give the answers their worth.
use Rattle.std.specs.Prelude.{◌≡◌, ℕ, ◌+◌, ◌*◌, ◌<◌, ◌⊎◌, ◌↔◌, List, length}
use Rattle.std.proofs.Math.Option.{some}
use Rattle.rewriting.specs.Terms.{nth, Term, size}
use Rattle.rewriting.specs.Rules.{Eq, Equal, Steps, Meet}
use Rattle.rewriting.specs.Order.{rank, Greater, AllDown}
use Rattle.rewriting.specs.Overlaps.{Peak}
use Rattle.rewriting.specs.Books.{Book, OneEnd, NoLess}
use Rattle.rewriting.specs.Ways.{Ways}
use Rattle.rewriting.specs.Theorems.{OrderEnds, OrderKept, DownEnds, MadeOne, ToldByPairs, OverlapsTell, PeaksTell, Settled}
use Rattle.rewriting.specs.MachineTheorems.{MachineSteps, MachineValid, MachineEnds}
use Rattle.critical_pairs.specs.Theorems.{OverlapsListed, FinitelyManyPairs, MostGeneralAlike}
use Rattle.books.specs.Rows.{Reads, Of, rowWays}
use Rattle.books.specs.Theorems.{OneBook, OneTerm, OneWays}
use Rattle.equal.specs.declared.types.Judged.{Judged}
use Rattle.equal.specs.declared.types.Judged.TheVariants.{Settles, Up, Apart, Lost, Stray, NoBook, Room, Few}
use Rattle.equal.specs.declared.types.Told.{Told}
use Rattle.equal.specs.declared.types.Told.TheVariants.{Same, Different, Unsettled, NoTerm, Full, Unjudged, Small}

-- what is said of the book with the words s and the ways with the words h
abbrev pub JudgedSays : List ℕ → List ℕ → Judged → Type 0
-- all rules go down, all that comes from one term meets, each equation's sides meet, and the ways show the rules
JudgedSays s h Settles = (b : Book) × (ws : List (List Term)) × Reads s b × AllDown (rank b.ranks) b.rules × OneEnd b × NoLess b
    × (rowWays ws ≡ h) × Ways b.parts b.eqs b.rules ws
-- rule i does not go down, and those before it do
JudgedSays s h (Up i) = (b : Book) × (r : Eq) × Reads s b × (nth b.rules i ≡ some r)
    × (Greater (rank b.ranks) r.left r.right → ⊥)
    × ((j : ℕ) (q : Eq) → j < i → nth b.rules j ≡ some q → Greater (rank b.ranks) q.left q.right)
-- all rules go down, but not all that comes from one term meets
JudgedSays s h Apart = (b : Book) × Reads s b × AllDown (rank b.ranks) b.rules × (OneEnd b → ⊥)
-- all that comes from one term meets too, but the sides of equation i don't, and those of the equations before it do
JudgedSays s h (Lost i) = (b : Book) × (e : Eq) × Reads s b × AllDown (rank b.ranks) b.rules × OneEnd b
    × (nth b.eqs i ≡ some e) × (Meet b.rules e.left e.right → ⊥)
    × ((j : ℕ) (q : Eq) → j < i → nth b.eqs j ≡ some q → Meet b.rules q.left q.right)
-- each equation's sides meet too, but the ways don't show the rules
JudgedSays s h Stray = (b : Book) × Reads s b × AllDown (rank b.ranks) b.rules × OneEnd b × NoLess b
    × ((ws : List (List Term)) → rowWays ws ≡ h → Ways b.parts b.eqs b.rules ws → ⊥)
JudgedSays s h NoBook = (b : Book) → Reads s b → ⊥
JudgedSays s h Room = (b : Book) × Reads s b × AllDown (rank b.ranks) b.rules
JudgedSays s h Few = Unit {0}

-- w work words are too few for n words of rows, and for a term of n letters and signs
abbrev pub TooFew : ℕ → ℕ → Type 0
TooFew w n = w < 16384 + 64 * n

-- t is a side of an equation, or a term at which two rules meet
abbrev pub Starting : Book → Term → Type 0
Starting b t = Peak b.rules t ⊎ ((i : ℕ) × (e : Eq) × (nth b.eqs i ≡ some e) × ((t ≡ e.left) ⊎ (t ≡ e.right)))

-- steps lead from such a term to one with too many letters and signs for w work words
abbrev pub Large : Book → ℕ → Type 0
Large b w = (t u : Term) × Starting b t × Steps b.rules t u × TooFew w (size u)

-- the theorems that give the answers their worth
pub record Theorems : Type 0 where
  -- a row is the writing of at most one book, one term, one list of ways
  pub one_book : OneBook
  pub one_term : OneTerm
  pub one_ways : OneWays
  -- the order has no endless way down, and is kept by replacing, in places and by steps; so rules that go down end
  pub order_ends : OrderEnds
  pub order_kept : OrderKept
  pub rules_down_end : DownEnds
  -- two terms are made one by a least replacement, or by none
  pub least_or_none : MadeOne
  -- there is one end if the two results at each place where two rules meet come together, or if all that two steps from such a place
  -- lead to does; and whether there is can be told
  pub one_end_by_overlaps : OverlapsTell
  pub one_end_by_steps_at_overlaps : PeaksTell
  pub one_end_is_told : ToldByPairs
  -- by finitely many pairs: the overlaps of the rules are a list, there is one end exactly if at each of these nothing makes the two left
  -- sides one or both results come together for some most general replacement, and these differ in the names of letters alone
  pub overlaps_are_listed : OverlapsListed
  pub one_end_by_the_list : FinitelyManyPairs
  pub most_general_are_alike : MostGeneralAlike
  -- in a book that settles, terms are equal exactly if they come to one term, and each comes to just one at which nothing can be done
  pub equal_terms_meet : Settled
  -- the machine's moves are steps, keep what is valid, and go on until it is finished, which it comes to be
  pub moves_are_steps : MachineSteps
  pub moves_keep_validity : MachineValid
  pub moves_end : MachineEnds

-- `judge`, of a book s and ways h with w work words
pub record JudgedPost (s h : List ℕ) (w : ℕ) (r : Judged) : Type 0 where
  pub says : JudgedSays s h r
  pub room : r ≡ Room → (b : Book) → Reads s b → Large b w
  pub few : TooFew w (length s + length h) ↔ (r ≡ Few)
  pub theorems : Theorems

-- what is said of two terms with the words x and y
abbrev pub ToldSays : List ℕ → List ℕ → List ℕ → List ℕ → Told → Type 0
ToldSays s h x y Same = (b : Book) × (t u : Term) × JudgedSays s h Settles × Reads s b × Of b.parts x t × Of b.parts y u
    × Equal b.eqs t u
ToldSays s h x y Different = (b : Book) × (t u : Term) × JudgedSays s h Settles × Reads s b × Of b.parts x t × Of b.parts y u
    × (Equal b.eqs t u → ⊥)
ToldSays s h x y Unsettled = JudgedSays s h Settles → ⊥
ToldSays s h x y NoTerm = (b : Book) × JudgedSays s h Settles × Reads s b × ((t u : Term) → Of b.parts x t → Of b.parts y u → ⊥)
ToldSays s h x y Full = (b : Book) × (t u : Term) × JudgedSays s h Settles × Reads s b × Of b.parts x t × Of b.parts y u
ToldSays s h x y Unjudged = Unit {0}
ToldSays s h x y Small = Unit {0}

-- steps lead from a term with the words x or y to one with too many letters and signs
abbrev pub Grows : List ℕ → List ℕ → List ℕ → ℕ → Type 0
Grows s x y w = (b : Book) × (t u : Term) × Reads s b × (Of b.parts x t ⊎ Of b.parts y t) × Steps b.rules t u
    × TooFew w (size u)

-- `tell`, of a book s, ways h and terms x and y with w work words
pub record ToldPost (s h x y : List ℕ) (w : ℕ) (r : Told) : Type 0 where
  pub says : ToldSays s h x y r
  pub full : r ≡ Full → Grows s x y w
  pub unjudged : r ≡ Unjudged → JudgedSays s h Room × ((b : Book) → Reads s b → Large b w)
  pub small : TooFew w (length s + (length h + (length x + length y))) ↔ (r ≡ Small)
  pub theorems : Theorems
