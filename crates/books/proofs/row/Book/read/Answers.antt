-- The left sides stand in the words, and so the numbers behind their tags are those of their first symbols.
use Rattle.std.proofs.Common.{ℕ, get_or, length, subst, arith}
use Rattle.rewriting.proofs.Glueing.{size_some}
use Rattle.books.specs.Reading.{book_of}
use Rattle.books.specs.Indexing.{Indexed, top_word, rule_top}
use Rattle.books.specs.Books.{blank}
use Rattle.books.proofs.Bookish.{left_laid}
use Rattle.books.proofs.Indexing.{top_at, indexed_same}
use Rattle.books.proofs.row.Book.read.Goals as goal

pub index_rules-index-requires-clause-inside : goal.index_rules-index-requires-clause-inside
index_rules-index-requires-clause-inside c i l =
    let read = c.in_ok-layout.ensures in
    let at = left_laid c.args.words.now (book_of c.args.words.now) c.in_ok-layout.layout read.1 i (omega (arith, read.1.rules)) in
    omega (arith, at.long, at.within, size_some (get_or (book_of c.args.words.now).rules i blank).left)

pub invariant_of-result : goal.invariant_of-result
invariant_of-result c =
    let s = c.args.words.now in
    let b = book_of s in
    let k = c.in_ok-layout.layout in
    let read = c.in_ok-layout.ensures in
    let t : ℕ → ℕ = top_word s k.starts k.equations in
    record {
      reads = read.0;
      laid = read.1;
      indexed = indexed_same t (rule_top b) (length b.rules) (λ i l. top_at s _ _ _ (left_laid s b k read.1 i l)) c.index_rules-index.result
          (subst (λ (n : ℕ). Indexed t n c.index_rules-index.result) read.1.rules c.index_rules-index.ensures);
    }
