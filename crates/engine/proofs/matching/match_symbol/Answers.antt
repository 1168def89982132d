-- A turn, by the symbol.
use Rattle.std.proofs.Common.{Some, subst}
use Rattle.books.specs.Reading.{SymbolAt}
use Rattle.books.specs.declared.words.Symbol.{Symbol}
use Rattle.store.proofs.Telling.{one_place}
use Rattle.engine.proofs.Matcher.{next_place, letter_turn, large_letter, sign_turn}
use Rattle.engine.proofs.matching.match_symbol.Goals as goal

pub returns-then-x-lt32 : goal.returns-then-x-lt32
returns-then-x-lt32 c ws a y ps b0 l t m =
    letter_turn ps ws b0 l t c.args.store.now a c.args.pending.now.items c.args.bindings.now
    c.unwrap-p.result c.pop.new.self.items
    (next_place _ _ _ _ c.pop.ensures.items c.unwrap-p.ensures)
    (λ i j. one_place c.args.store.now.words.now c.args.store.now.count i j c.args.store.now.shared) c.in-Letter.x
    (subst (λ (z : Symbol). SymbolAt ws a (Some z)) c.in-Letter.is y)
    c.bind.new.self c.if-x-lt32.true c.bind.result c.bind.ensures m

pub returns-else-x-lt32 : goal.returns-else-x-lt32
returns-else-x-lt32 c ws a y ps b0 l t m =
    absurd (large_letter ps ws b0 l t c.args.store.now a c.args.pending.now.items c.args.bindings.now
    c.unwrap-p.result c.pop.new.self.items
    (next_place _ _ _ _ c.pop.ensures.items c.unwrap-p.ensures)
    (λ i j. one_place c.args.store.now.words.now c.args.store.now.count i j c.args.store.now.shared) c.in-Letter.x
    (subst (λ (z : Symbol). SymbolAt ws a (Some z)) c.in-Letter.is y)
    c.if-x-lt32.false m)

pub returns-in-Sign : goal.returns-in-Sign
returns-in-Sign c ws a y ps b0 l t m =
    sign_turn ps ws b0 l t c.args.store.now a c.args.pending.now.items c.args.bindings.now
    c.unwrap-p.result c.pop.new.self.items
    (next_place _ _ _ _ c.pop.ensures.items c.unwrap-p.ensures)
    (λ i j. one_place c.args.store.now.words.now c.args.store.now.count i j c.args.store.now.shared) c.in-Sign.f
    (subst (λ (z : Symbol). SymbolAt ws a (Some z)) c.in-Sign.is y)
    c.open.new.pending.items c.open.result c.open.ensures m
