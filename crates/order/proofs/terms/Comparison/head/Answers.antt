-- By the symbol.
use Rattle.std.proofs.Common.{Some, refl, subst}
use Rattle.books.specs.Reading.{SymbolAt}
use Rattle.books.specs.declared.words.Symbol.{Symbol}
use Rattle.books.specs.declared.words.Symbol.TheVariants.{Sign}
use Rattle.order.proofs.Standing.{no_symbol, letter_stands, sign_stands}
use Rattle.order.proofs.terms.Comparison.head.Goals as goal

pub returns-in_err-symbol_at : goal.returns-in_err-symbol_at
returns-in_err-symbol_at c = rw c.from_residual.ensures
    (λ t s. absurd (no_symbol c.args.self.now.parts.now c.args.words.now c.args.k c.in_err-symbol_at.ensures t s))

pub returns-in-Letter : goal.returns-in-Letter
returns-in-Letter c = letter_stands c.args.self.now.parts.now c.args.words.now c.args.k _
    (subst (λ (y : Symbol). SymbolAt c.args.words.now c.args.k (Some y)) c.in-Letter.is c.in_ok-symbol_at.ensures)

pub returns-in-Sign : goal.returns-in-Sign
returns-in-Sign c =
    let s : SymbolAt c.args.words.now c.args.k (Some (Sign c.in-Sign.f)) =
    subst (λ (y : Symbol). SymbolAt c.args.words.now c.args.k (Some y)) c.in-Sign.is c.in_ok-symbol_at.ensures in (
      s.0,
      refl,
      c.arity.ensures,
      sign_stands c.args.self.now.parts.now c.args.words.now c.args.k c.in-Sign.f c.arity.result s c.arity.ensures,
    )
