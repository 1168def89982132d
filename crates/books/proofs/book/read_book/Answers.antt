-- The numbers and the sides make the book.
use Rattle.std.proofs.Common.{Some, None, refl}
use Rattle.books.proofs.Building.{sides_here, is_book, is_laid, other_sides}
use Rattle.books.proofs.book.read_book.Goals as goal

pub returns-in_err-starts : goal.returns-in_err-starts
returns-in_err-starts c =
    let h = c.in_ok-head.ensures in
    let d = c.in_ok-head.head in
    rw c.from_residual-in_err-starts.ensures (other_sides c.args.words.now
    (sides_here c.args.words.now d.signs d.equations d.rules None h.1 h.2 h.3 c.in_err-starts.ensures))

pub returns : goal.returns
returns c =
    let s = c.args.words.now in
    let h = c.in_ok-head.ensures in
    let d = c.in_ok-head.head in
    let starts = c.in_ok-starts.starts in
    let at = sides_here s d.signs d.equations d.rules (Some starts) h.1 h.2 h.3 c.in_ok-starts.ensures in
    (is_book s starts h.0 at.0, is_laid s starts h.0 at.0 _ h.1 h.2 h.3 refl at.1)
