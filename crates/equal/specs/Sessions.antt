-- What is known of a book that was judged, and of the work words with which its terms are compared.
use Rattle.std.specs.Prelude.{◌≡◌, ◌≢◌, ◌+◌, ℕ, List, length}
use Rattle.rewriting.specs.Books.{Book}
use Rattle.books.specs.Rows.{Reads}
use Rattle.engine.specs.declared.work.Work.{Work}
use Rattle.engine.specs.Meeting.{Ample, most_parts}
use Rattle.equal.specs.declared.types.Judged.{Judged}
use Rattle.equal.specs.declared.types.Judged.TheVariants as judged
use Rattle.equal.specs.declared.settled_book.Settled.{Settled}
use Rattle.equal.specs.declared.finding.Finding.{Finding}
use Rattle.equal.specs.declared.finding.Finding.TheVariants as finding
use Rattle.equal.specs.Promises.{JudgedSays, TooFew, Large}
use Rattle.equal.specs.Serving.{Serves}

-- the book that settles its equations is s with the ways h, and of w work words all that is wanted is left to compare two terms by it
pub record SettledSays (s h : List ℕ) (w : ℕ) (k : Settled) (v : Work) : Type 0 where
  pub book : k.rules.book.words.now ≡ s
  pub ways : k.ways.now ≡ h
  pub serves : Serves k.rules.book.words.now v
  pub ample : Ample (most_parts w) v

-- the answer j on the book s with the ways h was found with w work words, and why it is not that the book settles its equations
pub record RefusedSays (s h : List ℕ) (w : ℕ) (j : Judged) : Type 0 where
  pub other : j ≢ judged.Settles
  pub few : j ≡ judged.Few → TooFew w (length s + length h)
  pub room : j ≡ judged.Room → JudgedSays s h judged.Room × ((b : Book) → Reads s b → Large b w)
  pub excluded : j ≢ judged.Few → j ≢ judged.Room → JudgedSays s h judged.Settles → ⊥

abbrev pub FindingSays : List ℕ → List ℕ → ℕ → Finding → Type 0
FindingSays s h w (finding.Settles c) = SettledSays s h w c.settled c.work
FindingSays s h w (finding.Refused j) = RefusedSays s h w j
