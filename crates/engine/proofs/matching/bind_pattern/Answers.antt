-- From the whole pattern to no symbol.
use Rattle.std.proofs.Common.{sym, ◌∙◌, subst, true, false, arith}
use Rattle.books.specs.Reading.{SymbolAt}
use Rattle.engine.proofs.Matcher.{only_one, match_start}
use Rattle.engine.proofs.Chunks.{is_symbol, room, turned, next_to, matched_end}
use Rattle.engine.proofs.matching.bind_pattern.Goals as goal

pub loop-pair-init : goal.loop-pair-init
loop-pair-init c =
    let same = c.into_iter-pair-iterator.ensures.into_iter_gives in (
      rw same c.chunks_exact-pair-items.ensures.size,
      record {
        place = 0;
        there = rw same (sym c.chunks_exact-pair-items.ensures.rest);
        matches = λ ps u h. match_start ps c.args.pattern.now u c.args.store.now c.args.p c.push.new.self.items c.args.bindings.now h
            c.requires.pattern.0
            (only_one c.new-pending.result.items c.push.new.self.items c.args.p c.new-pending.ensures c.push.ensures.items)
            c.requires.bindings.0 c.requires.bindings.1;
      },
    )

pub unwrap-symbol-requires : goal.unwrap-symbol-requires
unwrap-symbol-requires c =
    let step = c.in-Some.ensures.steps.1 in
    is_symbol c.loop-pair.invariant.1 c.requires.pattern.1 _ _ step.0 (step.1 ∙ c.loop-pair.invariant.0) _ c.symbol_at.ensures

pub match_symbol-requires-clause-some : goal.match_symbol-requires-clause-some
match_symbol-requires-clause-some c =
    let step = c.in-Some.ensures.steps.1 in
    let enough = room c.loop-pair.invariant.1 c.requires.pattern.1 _ _ step.0 (step.1 ∙ c.loop-pair.invariant.0) in
    (enough.0, enough.1)

pub returns-then-not-match_symbol : goal.returns-then-not-match_symbol
returns-then-not-match_symbol c ps u h =
    let step = c.in-Some.ensures.steps.1 in
    turned c.loop-pair.invariant.1 c.requires.pattern.1 _ _ step.0 (step.1 ∙ c.loop-pair.invariant.0)
    c.match_symbol.new.pending.items c.match_symbol.new.bindings c.unwrap-symbol.result false
    (subst (SymbolAt c.in-Some.pair.now 0) c.unwrap-symbol.ensures c.symbol_at.ensures) c.if-not-match_symbol.ensures ps u h

pub loop-pair-preserved : goal.loop-pair-preserved
loop-pair-preserved c =
    let step = c.in-Some.ensures.steps.1 in
    let two = step.1 ∙ c.loop-pair.invariant.0 in (
      c.in-Some.ensures.steps.0 ∙ c.loop-pair.invariant.0,
      next_to c.loop-pair.invariant.1 c.requires.pattern.1 _ _ step.0 two _ _
          (turned c.loop-pair.invariant.1 c.requires.pattern.1 _ _ step.0 two
          c.match_symbol.new.pending.items c.match_symbol.new.bindings c.unwrap-symbol.result true
          (subst (SymbolAt c.in-Some.pair.now 0) c.unwrap-symbol.ensures c.symbol_at.ensures) c.if-not-match_symbol.ensures),
    )

pub returns : goal.returns
returns c = matched_end c.loop-pair.invariant.1 (omega (arith, c.in-None.ensures.steps.1.0, c.loop-pair.invariant.0))
