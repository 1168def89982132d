-- Work words that serve for comparing the terms of a book, by its words.
use Rattle.std.specs.Prelude.{◌≡◌, List, ℕ}
use Rattle.books.specs.Reading.{book_of}
use Rattle.engine.specs.declared.work.Work.{Work}
use Rattle.engine.specs.Running.{Honest}
use Rattle.engine.specs.Reducers.{Idle}

-- what the store notes is true by the book's rules, and there are no roots
pub record Serves (s : List ℕ) (w : Work) : Type 0 where
  pub honest : Honest (book_of s).rules w.store
  pub none : w.roots.top ≡ 0

-- that stays so, and no words are lost
pub record StillServes (s : List ℕ) (w v : Work) : Type 0 where
  pub honest : Honest (book_of s).rules v.store
  pub idle : Idle w v
