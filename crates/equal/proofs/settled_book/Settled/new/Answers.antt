-- The rules of a book that settles its equations go down.
use Rattle.std.proofs.Common.{List, ℕ, subst}
use Rattle.std.proofs.lemmas.Grind.{merely}
use Rattle.books.specs.Books.{told, RowRead}
use Rattle.books.specs.Rows.{Reads}
use Rattle.equal.proofs.Excluding.{settles_by}
use Rattle.equal.proofs.settled_book.Settled.new.Goals as goal

pub invariant_of-result : goal.invariant_of-result
invariant_of-result c =
    let k = c.unwrap-book.result in
    let same = subst (RowRead c.args.book.now) c.unwrap-book.ensures c.read.ensures in
    let reads = subst (λ (s : List ℕ). Reads s (told k)) same k.reads in
    record { down = merely (settles_by c.args.book.now c.args.ways.now c.requires (told k) reads).down }
