-- From no symbol to the whole term.
use Rattle.std.proofs.Common.{◌∙◌, subst, arith}
use Rattle.books.specs.Reading.{SymbolAt}
use Rattle.engine.proofs.Chunks.{behind_from, behind_next, behind_end, two_words, row_symbol, turn_there, built_next}
use Rattle.engine.proofs.instance.build_behind.Goals as goal

pub loop-pair-init : goal.loop-pair-init
loop-pair-init c =
    let same = c.into_iter-pair-iterator.ensures.into_iter_gives in
    let cut = c.rchunks_exact-pair-items.ensures in (
      rw same cut.size,
      rw same (behind_from c.requires.few_parts.0 c.requires.space.1 c.requires.few_parts.1 _ _ cut.parts cut.remainder_len _
          c.new-built.ensures),
    )

pub unwrap-symbol-requires : goal.unwrap-symbol-requires
unwrap-symbol-requires c =
    let step = c.in-Some.ensures.steps.2 in
    row_symbol c.requires.few_parts.0 c.requires.space.1 c.loop-pair.invariant.1 _ _ (behind_next _ _ _ step.0) (step.1 ∙ c.loop-pair.invariant.0)
    c.requires.few_parts.1 _ c.symbol_at.ensures

pub build_symbol-requires-clause-buildable : goal.build_symbol-requires-clause-buildable
build_symbol-requires-clause-buildable c =
    let (t, f) = c.requires.few_parts.1 in
    let step = c.in-Some.ensures.steps.2 in
    (turn_there c.requires.few_parts.0 c.requires.space.1 c.loop-pair.invariant.1 _ _ (behind_next _ _ _ step.0) (step.1 ∙ c.loop-pair.invariant.0)
    c.unwrap-symbol.result (subst (SymbolAt c.in-Some.pair.now 0) c.unwrap-symbol.ensures c.symbol_at.ensures) t f).can

pub loop-pair-preserved : goal.loop-pair-preserved
loop-pair-preserved c =
    let step = c.in-Some.ensures.steps.2 in
    let two = step.1 ∙ c.loop-pair.invariant.0 in (
      c.in-Some.ensures.steps.0 ∙ c.loop-pair.invariant.0,
      built_next c.requires.few_parts.0 c.requires.space.1 c.loop-pair.invariant.1 _ _ (behind_next _ _ _ step.0) two c.unwrap-symbol.result
          (subst (SymbolAt c.in-Some.pair.now 0) c.unwrap-symbol.ensures c.symbol_at.ensures)
          c.build_symbol.new.store c.build_symbol.new.built.items c.build_symbol.ensures,
    )

pub returns : goal.returns
returns c t f = behind_end _ c.loop-pair.invariant.1 (omega (arith, c.in-None.ensures.steps.2.0, c.loop-pair.invariant.0)) t f

pub slice_bounds-rchunks_exact-count : goal.slice_bounds-rchunks_exact-count
slice_bounds-rchunks_exact-count c = two_words _ _ _ c.requires.few_parts.1

pub slice_bounds-rchunks_exact-start : goal.slice_bounds-rchunks_exact-start
slice_bounds-rchunks_exact-start c = two_words _ _ _ c.requires.few_parts.1
