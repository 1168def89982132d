-- The book settles its equations, as each such value says.
use Rattle.std.proofs.Common.{rules}
use Rattle.books.specs.Books.{told, sound_book_in}
use Rattle.equal.proofs.Deciding.{stable_settles}
use Rattle.equal.proofs.Excluding.{is_settled}
use Rattle.equal.proofs.Serving.{serves_on}
use Rattle.equal.proofs.settled_book.Settled.compare.Goals as goal

pub compare_terms-requires : goal.compare_terms-requires
compare_terms-requires c =
    let k = c.args.self.now in
    let s = k.rules.book.words.now in
    record {
      none = c.requires.none;
      settled = is_settled s k.ways.now (stable_settles s k.ways.now k.settles) (told k.rules.book) (sound_book_in k.rules.book).reads;
    }

pub returns-clause-serves : goal.returns-clause-serves
returns-clause-serves c = serves_on _ c.compare_terms.new.reducer _ c.compare_terms.ensures.idle (search rules)
