-- The slices are cut out where the sides stand.
use Rattle.std.proofs.Common.{◌+◌, ◌*◌, ℕ, get_or, refl, subst, ◌∙◌}
use Rattle.books.specs.Books.{sound_book_in, CutAt}
use Rattle.books.proofs.Bookish.{rule_at, side_cut}
use Rattle.books.proofs.row.Book.rule.Goals as goal

pub returns : goal.returns
returns c =
    let k = c.args.self.now in
    let there = rule_at k (sound_book_in k) c.args.i c.requires _ _ _ refl refl refl in
    let cut = subst (λ (n : ℕ). CutAt k (get_or k.layout.starts (2 * (n + c.args.i)) 0) (get_or k.layout.starts (2 * (n + c.args.i) + 1) 0)
    (get_or k.layout.starts (2 * (n + c.args.i) + 2) 0) c.sides.result) c.equations.ensures c.sides.ensures in
    record {
      left = cut.left ∙ side_cut k.words.now _ _ _ there.left;
      right = cut.right ∙ side_cut k.words.now _ _ _ there.right;
      stands = (_, _, _, there, cut);
    }
