-- A sign of the signature.
use Rattle.std.proofs.Common.{Some, ap, subst, length, arith}
use Rattle.books.specs.Reading.{SymbolAt}
use Rattle.books.specs.declared.words.Symbol.{Symbol}
use Rattle.books.specs.Books.{told}
use Rattle.engine.proofs.Opening.{top_sign}
use Rattle.engine.proofs.rules.opening.Goals as goal

pub bounds-parts-g : goal.bounds-parts-g
bounds-parts-g c =
    let x = top_sign (told c.args.book.now).parts c.args.right.now c.requires.0 c.requires.1 c.in-Some-Sign.g
    (subst (λ (y : Symbol). SymbolAt c.args.right.now 0 (Some y)) c.in-Some-Sign.field-0-is c.in-Some-Sign.ensures) in
    omega (arith, x.within, ap length c.parts.ensures)
