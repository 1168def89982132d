-- Words that are no ways show nothing.
use Rattle.std.proofs.Common.{refl, ◌∙◌}
use borrow.Author.Tests.{clash}
use Rattle.books.specs.Books.{sound_book_in}
use Rattle.ways.proofs.Following.{went_same}
use Rattle.ways.proofs.Remaining.{not_ways}
use Rattle.ways.proofs.shown.Goals as goal

pub returns-then-not-are_ways-clause-kept : goal.returns-then-not-are_ways-clause-kept
returns-then-not-are_ways-clause-kept c = went_same c.args.store.now c.args.roots.now

pub returns-then-not-are_ways-clause-told : goal.returns-then-not-are_ways-clause-told
returns-then-not-are_ways-clause-told c = record {
  holds = λ z. absurd (clash z);
  fails = λ z. not_ways c.args.book.now c.args.ways.now _ _ c.parts.ensures (c.rules.ensures ∙ (sound_book_in c.args.book.now).laid.rules)
      (c.if-not-are_ways.ensures.fails refl);
}
