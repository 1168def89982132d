-- Two rows whose terms are compared.
use Rattle.std.specs.Prelude.{◌≡◌, ℕ, ◌≤◌, Bool, List, length, Some, None, Option as Maybe, Ok, Err, Result}
use Rattle.rewriting.specs.Terms.{Term, size}
use Rattle.rewriting.specs.Rules.{Eq}
use Rattle.store.specs.Stores.{Sound, Inside}
use Rattle.books.specs.declared.row.Book.{Book}
use Rattle.books.specs.Books.{told}
use Rattle.books.specs.Rows.{Of}
use Rattle.engine.specs.declared.types.NoRoom.{NoRoom}
use Rattle.engine.specs.declared.work.Work.{Work}
use Rattle.engine.specs.Running.{Honest}
use Rattle.engine.specs.Normal.{root_term}
use Rattle.engine.specs.Meeting.{Ample, Compares}

-- the words are the rows of two terms over the book's signature, with letters below 16
pub record RowsOf (b : Book) (ls rs : List ℕ) (t u : Term) : Type 0 where
  pub left : Of (told b).parts ls t
  pub right : Of (told b).parts rs u

abbrev pub TwoRows : Book → List ℕ → List ℕ → Type 0
TwoRows b ls rs = (t u : Term) × RowsOf b ls rs t u

-- two roots hold the terms; or there is no room even for their letters and signs
abbrev pub HeldOrRoom : Work → Term → Term → Work → Result (Unit {0}) NoRoom → Type 0
HeldOrRoom w t u v (Ok _) = (v.roots.top ≡ 2) × Inside v.store v.roots × (root_term v 0 ≡ t) × (root_term v 1 ≡ u)
HeldOrRoom w t u v (Err _) = (n : ℕ) → Ample n w → size t ≤ n → size u ≤ n → ⊥

-- the two rows are read
pub record RowsRead (b : Book) (w : Work) (ls rs : List ℕ) (v : Work) (x : Result (Unit {0}) NoRoom) : Type 0 where
  pub sound : Sound v.store
  pub honest : (es : List Eq) → Honest es w.store → Honest es v.store
  pub room : v.store.room ≡ w.store.room
  pub cells : length v.roots.cells.now ≡ length w.roots.cells.now
  pub frames : v.frames ≡ w.frames
  pub result : (t u : Term) → RowsOf b ls rs t u → HeldOrRoom w t u v x

-- what is found of the two terms, where there is room for n different parts and they have no more letters and signs; or there are no
-- such terms
abbrev pub RowsCompared : Book → Work → List ℕ → List ℕ → Maybe (Result Bool NoRoom) → Type 0
RowsCompared b w ls rs None = TwoRows b ls rs → ⊥
RowsCompared b w ls rs (Some x) = TwoRows b ls rs × ((t u : Term) → RowsOf b ls rs t u →
    (n : ℕ) → Ample n w → size t ≤ n → size u ≤ n → Compares b n t u x)
