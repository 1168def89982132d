-- The slices are cut out where the sides stand.
use Rattle.std.proofs.Common.{refl, ◌∙◌}
use Rattle.books.specs.Books.{sound_book_in}
use Rattle.books.proofs.Bookish.{equation_at, side_cut}
use Rattle.books.proofs.row.Book.equation.Goals as goal

pub returns : goal.returns
returns c =
    let k = c.args.self.now in
    let there = equation_at k (sound_book_in k) c.args.i c.requires _ _ _ refl refl refl in
    let cut = c.sides.ensures in
    record {
      left = cut.left ∙ side_cut k.words.now _ _ _ there.left;
      right = cut.right ∙ side_cut k.words.now _ _ _ there.right;
      stands = (_, _, _, there, cut);
    }
