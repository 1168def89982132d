-- What the parts of judging and of comparing come to.
use Rattle.std.specs.Prelude.{◌≡◌, ℕ, ◌+◌, ◌*◌, ◌<◌, ◌≤◌, Bool, true, false, ◌⊎◌, List, [], ◌∷◌, length, Some, None, Option as Maybe}
use Rattle.std.specs.Prelude.{Ok, Err, Result}
use Rattle.rewriting.specs.Terms.{Term}
use Rattle.rewriting.specs.Rules.{Eq, Equal, Steps, Meet}
use Rattle.rewriting.specs.Different.{different}
use Rattle.rewriting.specs.Books.{OneEnd, NoLess}
use Rattle.rewriting.specs.Books.{Book as Told}
use Rattle.store.specs.Stores.{Sound}
use Rattle.books.specs.declared.row.Book.{Book}
use Rattle.books.specs.Books.{told, equation_in}
use Rattle.engine.specs.declared.types.NoRoom.{NoRoom}
use Rattle.engine.specs.declared.work.Work.{Work}
use Rattle.engine.specs.Running.{Honest}
use Rattle.engine.specs.Meeting.{Ample}
use Rattle.engine.specs.Working.{SharedOut}
use Rattle.books.specs.Rows.{Reads, Of}
use Rattle.ways.specs.Showing.{Shown}
use Rattle.equal.specs.declared.types.Judged.{Judged}
use Rattle.equal.specs.declared.types.Judged.TheVariants as judged
use Rattle.equal.specs.declared.types.Told.{Told as Answer}
use Rattle.equal.specs.declared.types.Told.TheVariants as answer
use Rattle.equal.specs.Promises.{JudgedSays, Starting, TooFew}
use Rattle.equal.specs.Serving.{StillServes}

-- slots, cells and words enough for two terms of n different parts at once, and the book has no more words
pub record AmpleFor (b : Book) (n : ℕ) (w : Work) : Type 0 where
  pub ample : Ample n w
  pub slots : 3 * n + 1000 ≤ w.store.room
  pub long : length b.words.now ≤ n

-- nor have the book and m words more
pub record AmpleWith (b : Book) (m n : ℕ) (w : Work) : Type 0 where
  pub for_book : AmpleFor b n w
  pub long : length b.words.now + m ≤ n

-- the sides of the equations before i meet
abbrev pub KeptBefore : Book → ℕ → Type 0
KeptBefore b i = (j : ℕ) → j < i → Meet (told b).rules (equation_in b j).left (equation_in b j).right

-- steps lead from a side of equation i to a term of more than n different parts
abbrev pub LargeSide : Book → ℕ → ℕ → Type 0
LargeSide b n i = (u : Term) × (Steps (told b).rules (equation_in b i).left u ⊎ Steps (told b).rules (equation_in b i).right u)
    × (n < different (u ∷ []))

-- the sides of each equation meet; or the first that don't; or those of one lead to a term that is too large
abbrev pub EquationsSay : Book → ℕ → Result (Maybe ℕ) NoRoom → Type 0
EquationsSay b n (Ok None) = NoLess (told b)
EquationsSay b n (Ok (Some i)) = (i < length (told b).eqs) × (Meet (told b).rules (equation_in b i).left (equation_in b i).right → ⊥)
    × KeptBefore b i
EquationsSay b n (Err _) = (i : ℕ) × (i < length (told b).eqs) × LargeSide b n i

-- steps lead from an equation's side, or from a term where two rules meet, to a term of more than n different parts
abbrev pub Growing : Told → ℕ → Type 0
Growing b n = (t u : Term) × Starting b t × Steps b.rules t u × (n < different (u ∷ []))

-- what is said of a book whose rules go down
abbrev pub RulesSay : Book → List ℕ → ℕ → Judged → Type 0
RulesSay b h n judged.Settles = OneEnd (told b) × NoLess (told b) × Shown b h
RulesSay b h n (judged.Up i) = ⊥
RulesSay b h n judged.Apart = OneEnd (told b) → ⊥
RulesSay b h n (judged.Lost i) = OneEnd (told b) × EquationsSay b n (Ok (Some i))
RulesSay b h n judged.Stray = OneEnd (told b) × NoLess (told b) × (Shown b h → ⊥)
RulesSay b h n judged.NoBook = ⊥
RulesSay b h n judged.Room = Growing (told b) n
RulesSay b h n judged.Few = ⊥

-- the answer, or that there is no room
abbrev pub or_room : Result Judged NoRoom → Judged
or_room (Ok j) = j
or_room (Err _) = judged.Room

-- the answer by the ways
abbrev pub by_ways : Bool → Judged
by_ways true = judged.Settles
by_ways false = judged.Stray

-- room for the words of a book s and ways h, and for two terms of n different parts at once
pub record RoomFor (s h : List ℕ) (n : ℕ) (w : Work) : Type 0 where
  pub ample : Ample n w
  pub slots : 3 * n + 1000 ≤ w.store.room
  pub long : length s + length h ≤ n

-- a store that can serve for any book
pub record OpenStore (w : Work) : Type 0 where
  pub sound : Sound w.store
  pub honest : (rs : List Eq) → Honest rs w.store
  pub none : w.roots.top ≡ 0

-- what is said of a book s and ways h, with room for n different parts; if the book settles, its terms can be compared
pub record JudgedIn (s h : List ℕ) (n : ℕ) (w v : Work) (a : Judged) : Type 0 where
  pub says : JudgedSays s h a
  pub enough : a ≡ judged.Few → ⊥
  pub room : a ≡ judged.Room → (b : Told) → Reads s b → Growing b n
  pub serves : a ≡ judged.Settles → StillServes s w v

-- the answer by what was found of two rows
abbrev pub answer_of : Maybe (Result Bool NoRoom) → Answer
answer_of None = answer.NoTerm
answer_of (Some (Ok true)) = answer.Same
answer_of (Some (Ok false)) = answer.Different
answer_of (Some (Err _)) = answer.Full

-- the answer by what else was found of the book
abbrev pub not_settled : Judged → Answer
not_settled judged.Settles = answer.Unsettled
not_settled (judged.Up i) = answer.Unsettled
not_settled judged.Apart = answer.Unsettled
not_settled (judged.Lost i) = answer.Unsettled
not_settled judged.Stray = answer.Unsettled
not_settled judged.NoBook = answer.Unsettled
not_settled judged.Room = answer.Unjudged
not_settled judged.Few = answer.Unsettled

-- what is said of two rows by a book that settles its equations, where there is room for n different parts
abbrev pub RowsSay : Book → ℕ → List ℕ → List ℕ → Answer → Type 0
RowsSay b n x y answer.Same = (t u : Term) × Of (told b).parts x t × Of (told b).parts y u × Equal (told b).eqs t u
RowsSay b n x y answer.Different = (t u : Term) × Of (told b).parts x t × Of (told b).parts y u × (Equal (told b).eqs t u → ⊥)
RowsSay b n x y answer.Unsettled = ⊥
RowsSay b n x y answer.NoTerm = (t u : Term) → Of (told b).parts x t → Of (told b).parts y u → ⊥
RowsSay b n x y answer.Full = (t u v : Term) × Of (told b).parts x t × Of (told b).parts y u
    × (Steps (told b).rules t v ⊎ Steps (told b).rules u v) × (n < different (v ∷ []))
RowsSay b n x y answer.Unjudged = ⊥
RowsSay b n x y answer.Small = ⊥

-- w work words shared out, enough for n words of rows; or they are too few
abbrev pub SharedFor : ℕ → ℕ → Maybe Work → Type 0
SharedFor n w None = TooFew w n
SharedFor n w (Some k) = (TooFew w n → ⊥) × SharedOut w (Some k)
