-- Ways read from their words and followed step by step.
use Rattle.std.specs.Prelude.{◌≡◌, ℕ, ◌+◌, ◌*◌, ◌<◌, ◌≤◌, List, ◌++◌, length, drop, Some, None, Option as Maybe}
use Rattle.rewriting.specs.Terms.{Term, sizes, Fits}
use Rattle.rewriting.specs.Rules.{Eq}
use Rattle.rewriting.specs.Ways.{One, Way, Ways}
use Rattle.store.specs.declared.types.Store.{Store}
use Rattle.store.specs.declared.types.Roots.{Roots}
use Rattle.store.specs.Stores.{Sound, Carried, terms_down}
use Rattle.books.specs.declared.row.Book.{Book}
use Rattle.books.specs.Books.{told}
use Rattle.books.specs.Rows.{row, rowTerms, rowWays, AllFit}

-- there is room to read n words beside what the roots hold
pub record RoomFor (st : Store) (q : Roots) (n : ℕ) : Type 0 where
  pub slots : n + 2 * sizes (terms_down st q 0 q.top) < 2 * st.room
  pub cells : 2 * q.top + n ≤ length q.cells.now

-- slots and cells enough for the words of a book and of ways
pub record Roomy (k : Book) (h : List ℕ) (st : Store) (q : Roots) : Type 0 where
  pub slots : length k.words.now + length h < st.room
  pub cells : length k.words.now + length h + 2 ≤ length q.cells.now

-- no room is lost, and flags and notes go back to what they were for the same terms
pub record WentOn (st : Store) (q : Roots) (su : Store) (r : Roots) : Type 0 where
  pub sound : Sound su
  pub room : su.room ≡ st.room
  pub cells : length r.cells.now ≡ length q.cells.now
  pub carried : Carried st su

-- of the term v that stands at place a of the ways, with the words of the rest behind it
pub record TermNext (k : Book) (h : List ℕ) (a : ℕ) (v : Term) (rest : List ℕ) : Type 0 where
  pub fits : Fits (told k).parts v
  pub written : drop a h ≡ row v ++ rest

-- one step leads from t to it, it is u, and the rest starts at z; or no step leads there
abbrev pub NextTold : Book → List ℕ → ℕ → Term → Term → Maybe ℕ → Type 0
NextTold k h a t u (Some z) = (v : Term) (rest : List ℕ) → TermNext k h a v rest → One (told k).eqs t v × (u ≡ v) × (drop z h ≡ rest)
NextTold k h a t u None = (v : Term) (rest : List ℕ) → TermNext k h a v rest → One (told k).eqs t v → ⊥

-- of the n terms w that stand there
pub record TermsNext (k : Book) (h : List ℕ) (a n : ℕ) (w : List Term) (rest : List ℕ) : Type 0 where
  pub many : length w ≡ n
  pub fit : AllFit (told k).parts w
  pub written : drop a h ≡ rowTerms w ++ rest

-- they are a way from t to u, and the rest starts at z; or they are no way from t
abbrev pub Followed : Book → List ℕ → ℕ → ℕ → Term → Term → Maybe ℕ → Type 0
Followed k h a n t u (Some z) = (w : List Term) (rest : List ℕ) → TermsNext k h a n w rest →
    Way (told k).parts (told k).eqs t w u × (drop z h ≡ rest)
Followed k h a n t u None = (w : List Term) (rest : List ℕ) → TermsNext k h a n w rest → (v : Term) →
    Way (told k).parts (told k).eqs t w v → ⊥

-- they are a way from the left side of a rule to its right side, and the rest starts at z; or they are none
abbrev pub WayTold : Book → List ℕ → ℕ → ℕ → Eq → Maybe ℕ → Type 0
WayTold k h a n e (Some z) = (w : List Term) (rest : List ℕ) → TermsNext k h a n w rest →
    Way (told k).parts (told k).eqs e.left w e.right × (drop z h ≡ rest)
WayTold k h a n e None = (w : List Term) (rest : List ℕ) → TermsNext k h a n w rest →
    Way (told k).parts (told k).eqs e.left w e.right → ⊥

-- the words say ways that show that each rule follows from the equations
abbrev pub Shown : Book → List ℕ → Type 0
Shown k h = (ws : List (List Term)) × (rowWays ws ≡ h) × Ways (told k).parts (told k).eqs (told k).rules ws
