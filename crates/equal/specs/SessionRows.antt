-- What a session is on, for contracts: its fields are its own.
use Rattle.std.specs.Prelude.{◌≡◌, ℕ, List}
use Rattle.equal.specs.declared.session.Session.{Session}

-- a session on the book with the words s and the ways with the words h, for which w work words were lent
pub record SessionOn (k : Session) (s h : List ℕ) (w : ℕ) : Type 0 where
  pub book : k.book.now ≡ s
  pub ways : k.ways.now ≡ h
  pub lent : k.lent ≡ w
