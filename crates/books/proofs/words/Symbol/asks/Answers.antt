-- A sign asks for its parts where the signature has it, and for nothing where it has not.
use Rattle.std.proofs.Common.{ap, ◌∙◌, rules}
use mathlib.Core.Option.{some}
use Rattle.books.specs.declared.words.Symbol.{Symbol}
use Rattle.books.specs.Reading.{opens, tag, number}
use Rattle.books.proofs.Elements.{nth_getD, nth_past}
use Rattle.books.proofs.words.Symbol.asks.Goals as goal

pub returns-in_err-get-in-Sign-clause-is : goal.returns-in_err-get-in-Sign-clause-is
returns-in_err-get-in-Sign-clause-is c =
    rw c.from_residual.ensures (ap (λ (y : Symbol). opens c.args.letters c.args.parts.now (tag y) (number y)) c.in-Sign.is
    ∙ nth_past c.args.parts.now c.in-Sign.f (search rules))

pub returns-in_ok-get-in-Sign-clause-is : goal.returns-in_ok-get-in-Sign-clause-is
returns-in_ok-get-in-Sign-clause-is c =
    ap (λ (y : Symbol). opens c.args.letters c.args.parts.now (tag y) (number y)) c.in-Sign.is
    ∙ nth_getD c.args.parts.now c.in-Sign.f c.in_ok-get-in-Sign.field-0.now (search rules)
    ∙ ap some (search rules)
