-- The words that were read are those of the signs and sides that were parsed.
use Rattle.std.proofs.Common.{vec_items, sym, ap, ◌∙◌, subst}
use Rattle.notation.specs.Books.{row_with}
use Rattle.notation.specs.Rows.{BookWays}
use Rattle.notation.proofs.Heads.{whole}
use Rattle.notation.proofs.book.parse.Goals as goal

pub returns-in-Some : goal.returns-in-Some
returns-in-Some c =
    let words = vec_items c.in_ok-words.words in
    let sides = c.in_ok-sides.sides in
    let layout = c.in-Some.layout in
    whole _ sides
    (subst (λ h. BookWays words h layout) c.as_slice-3.ensures.value
    (subst (λ s. BookWays s c.as_slice-3.result.now layout) c.as_slice-2.ensures.value c.in-Some.ensures))
    (c.in_ok-words.ensures ∙ ap (λ ss. row_with ss sides) c.as_slice.ensures.value)
    (sym c.signs.ensures ∙ c.if-signs-len.true ∙ c.len.ensures)
