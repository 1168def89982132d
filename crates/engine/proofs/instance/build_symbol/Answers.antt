-- A letter, or a sign.
use Rattle.std.proofs.Common.{sym, ◌∙◌, subst}
use Rattle.books.specs.declared.words.Symbol.{Symbol}
use Rattle.engine.specs.Building.{Buildable, SymbolBuilt}
use Rattle.engine.proofs.Builder.{letter_built, sign_built}
use Rattle.engine.proofs.instance.build_symbol.Goals as goal

pub returns-in-Letter : goal.returns-in-Letter
returns-in-Letter c =
    let ps = c.args.parts.now in let b = c.args.bindings.now in let st = c.args.store.now in let q = c.args.built.now.items in
    subst (λ (y : Symbol). SymbolBuilt ps y b st q st c.push.new.self.items) (sym c.in-Letter.is)
    (letter_built ps c.in-Letter.x b st q (subst (λ (y : Symbol). Buildable ps y b st q) c.in-Letter.is c.requires.buildable)
    c.unwrap.result c.push.new.self.items (sym c.get.ensures ∙ c.unwrap.ensures) c.push.ensures.items)

pub returns-in-Sign : goal.returns-in-Sign
returns-in-Sign c =
    let ps = c.args.parts.now in let b = c.args.bindings.now in let st = c.args.store.now in let q = c.args.built.now.items in
    subst (λ (y : Symbol). SymbolBuilt ps y b st q c.share_sign-p.new.self c.push-in-Sign.new.self.items) (sym c.in-Sign.is)
    (sign_built ps c.in-Sign.f b st q (subst (λ (y : Symbol). Buildable ps y b st q) c.in-Sign.is c.requires.buildable)
    c.take-args.result c.take-args.new.built.items c.share_sign-p.new.self c.share_sign-p.result c.push-in-Sign.new.self.items
    c.take-args.ensures c.share_sign-p.ensures.shared c.share_sign-p.ensures.new c.push-in-Sign.ensures.items)
