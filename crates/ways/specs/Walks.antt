-- What a walk keeps, and what it is while a way is followed.
use Rattle.std.specs.Prelude.{◌≡◌, ◌+◌, ◌*◌, ◌≤◌, length}
use Rattle.rewriting.specs.Terms.{size, Fits}
use Rattle.store.specs.Stores.{held, Inside}
use Rattle.books.specs.Books.{told}
use Rattle.ways.specs.declared.walk.Walk.{Walk}
use Rattle.ways.specs.Showing.{WentOn}

-- the book and the ways are the same, and the store and the roots are the ones that were lent, and have gone on
pub record Kept (w v : Walk) : Type 0 where
  pub book : v.book.now ≡ w.book.now
  pub ways : v.ways.now ≡ w.ways.now
  pub store_lent : v.store.ghost_name ≡ w.store.ghost_name
  pub roots_lent : v.roots.ghost_name ≡ w.roots.ghost_name
  pub went : WentOn w.store.now w.roots.now v.store.now v.roots.now

-- nothing but what the roots are is changed
pub record OnlyRoots (w v : Walk) : Type 0 where
  pub book : v.book.now ≡ w.book.now
  pub ways : v.ways.now ≡ w.ways.now
  pub store : v.store.now ≡ w.store.now
  pub store_lent : v.store.ghost_name ≡ w.store.ghost_name
  pub roots_lent : v.roots.ghost_name ≡ w.roots.ghost_name

-- the only root's term is over the signature, and no longer than the words of the book and of the ways
pub record UnderWay (w : Walk) : Type 0 where
  pub inside : Inside w.store.now w.roots.now
  pub one : w.roots.now.top ≡ 1
  pub fits : Fits (told w.book.now).parts (held w.store.now w.roots.now 0)
  pub small : 2 * size (held w.store.now w.roots.now 0) ≤ length w.book.now.words.now + length w.ways.now
