-- What a call answers: the row of a normal form, or why there is none.
use Rattle.std.specs.Prelude.{◌≡◌, ℕ, ◌*◌, ◌<◌, List, Ok, Err, Result, take}
use Rattle.rewriting.specs.Terms.{Term, size}
use Rattle.rewriting.specs.Rules.{Steps, Done}
use Rattle.rewriting.specs.Order.{rank, AllDown}
use Rattle.rewriting.specs.Books.{Book}
use Rattle.books.specs.Rows.{row, Reads, Of}
use Rattle.books.specs.Reading.{book_of}
use Rattle.store.specs.declared.types.Short.{Short}
use Rattle.store.specs.declared.types.Short.TheVariants.{NoWord, NoCell}
use Rattle.engine.specs.Meeting.{most_parts}
use Rattle.calls.specs.declared.types.Refusal.{Refusal}
use Rattle.calls.specs.declared.types.Refusal.TheVariants.{NoBook, Up, NoTerm, Room, Long, Few}
use Rattle.calls.specs.declared.types.Outcome.{Outcome}

-- how many words a normal form's row has, or why there is none
abbrev pub Answer : Type 0
Answer = Result ℕ Refusal

-- v is a normal form of the term that the words are
pub record NormalForm (b : Book) (ts : List ℕ) (v : Term) : Type 0 where
  pub term : Term
  pub of : Of b.parts ts term
  pub steps : Steps b.rules term v
  pub done : Done b.rules v

-- steps lead from the term that the words are to one of more than n letters and signs
pub record Outgrown (b : Book) (ts : List ℕ) (n : ℕ) : Type 0 where
  pub term : Term
  pub of : Of b.parts ts term
  pub large : Term
  pub steps : Steps b.rules term large
  pub more : n < size large

-- the normal form's row is the first words, or is longer than m words; or steps lead to a term of more than n letters and signs
abbrev pub NormalAnswers : Book → List ℕ → ℕ → ℕ → List ℕ → Answer → Type 0
NormalAnswers b ts n m ws (Ok j) = (v : Term) × NormalForm b ts v × (j ≡ 2 * size v) × (take j ws ≡ row v)
NormalAnswers b ts n m ws (Err Long) = (v : Term) × NormalForm b ts v × (m < 2 * size v)
NormalAnswers b ts n m ws (Err Room) = Outgrown b ts n
NormalAnswers b ts n m ws (Err NoBook) = ⊥
NormalAnswers b ts n m ws (Err (Up i)) = ⊥
NormalAnswers b ts n m ws (Err NoTerm) = ⊥
NormalAnswers b ts n m ws (Err Few) = ⊥

-- that with w work words, or these are fewer than 16384
abbrev pub WordsAnswer : Book → List ℕ → ℕ → ℕ → List ℕ → Answer → Type 0
WordsAnswer b ts w m ws (Ok j) = NormalAnswers b ts (most_parts w) m ws (Ok j)
WordsAnswer b ts w m ws (Err Long) = NormalAnswers b ts (most_parts w) m ws (Err Long)
WordsAnswer b ts w m ws (Err Room) = Outgrown b ts (most_parts w)
WordsAnswer b ts w m ws (Err NoBook) = ⊥
WordsAnswer b ts w m ws (Err (Up i)) = ⊥
WordsAnswer b ts w m ws (Err NoTerm) = ⊥
WordsAnswer b ts w m ws (Err Few) = w < 16384

-- a row that can't be written
abbrev pub refusal_of : Short → Refusal
refusal_of NoWord = Long
refusal_of NoCell = Room

-- the words s are the row of a book whose rules go down, and that is answered for a term; or they are no book, or some rule doesn't go
-- down, or the words ts are no term over the book's signature
abbrev pub Answers : List ℕ → List ℕ → ℕ → ℕ → List ℕ → Answer → Type 0
Answers s ts w m ws (Ok j) = Reads s (book_of s) × WordsAnswer (book_of s) ts w m ws (Ok j)
Answers s ts w m ws (Err Long) = Reads s (book_of s) × WordsAnswer (book_of s) ts w m ws (Err Long)
Answers s ts w m ws (Err Room) = Reads s (book_of s) × WordsAnswer (book_of s) ts w m ws (Err Room)
Answers s ts w m ws (Err Few) = Reads s (book_of s) × WordsAnswer (book_of s) ts w m ws (Err Few)
Answers s ts w m ws (Err NoBook) = (b : Book) → Reads s b → ⊥
Answers s ts w m ws (Err (Up i)) = Reads s (book_of s) × (AllDown (rank (book_of s).ranks) (book_of s).rules → ⊥)
Answers s ts w m ws (Err NoTerm) = Reads s (book_of s) × ((t : Term) → Of (book_of s).parts ts t → ⊥)

-- the numbers of an answer
abbrev pub code_of : Answer → ℕ
code_of (Ok n) = 0
code_of (Err NoBook) = 1
code_of (Err (Up i)) = 2
code_of (Err NoTerm) = 3
code_of (Err Room) = 4
code_of (Err Long) = 5
code_of (Err Few) = 6

abbrev pub number_of : Answer → ℕ
number_of (Ok n) = n
number_of (Err NoBook) = 0
number_of (Err (Up i)) = i
number_of (Err NoTerm) = 0
number_of (Err Room) = 0
number_of (Err Long) = 0
number_of (Err Few) = 0

-- the outcome says an answer that is right
pub record SomeAnswer (s ts : List ℕ) (w m : ℕ) (ws : List ℕ) (o : Outcome) : Type 0 where
  pub answer : Answer
  pub right : Answers s ts w m ws answer
  pub code : o.code ≡ code_of answer
  pub number : o.number ≡ number_of answer
