-- Each symbol that is read leaves the roots ready for the one before it.
use Rattle.std.proofs.Common.{◌≡◌, ℕ, sym, ◌∙◌, subst, arith}
use Rattle.std.specs.declared.slice.RChunksExact.{RChunksExact}
use Rattle.std.specs.Slice.Exact.{rchunks_exact_rest, rchunks_exact_size}
use Rattle.store.proofs.Reading.{ToRead, all_to_read, next_there, next_readable, next_stops, next_read, all_read}
use Rattle.store.proofs.types.Store.read_row.Goals as goal

pub loop-pair-init : goal.loop-pair-init
loop-pair-init c =
    let items = c.rchunks_exact-pair-items.ensures in
    subst (λ (s : RChunksExact ℕ). (rchunks_exact_size s ≡ 2)
    × ToRead c.args.parts.now c.args.words.now (rchunks_exact_rest s) c.args.self.now c.args.roots.now c.args.self.now c.args.roots.now)
    (sym c.into_iter-pair-iterator.ensures.into_iter_gives) (
      items.size,
      all_to_read c.args.parts.now c.args.words.now _ _ c.args.self.now c.args.roots.now items.parts items.remainder_len
          c.requires.inside.0 c.requires.row_of.0 c.requires.row_of.1,
    )

pub unwrap-symbol-requires : goal.unwrap-symbol-requires
unwrap-symbol-requires c =
    let s = c.in-Some.ensures.steps.2 in
    next_there c.args.parts.now c.args.words.now _ _ c.in-Some.pair.now c.args.self.now c.args.roots.now c.loop-pair.self c.loop-pair.roots
    c.loop-pair.invariant.1 s.0 (s.1 ∙ c.loop-pair.invariant.0) c.symbol_at.result c.symbol_at.ensures
    c.requires.row_of.0 c.requires.row_of.1

pub read_symbol-requires : goal.read_symbol-requires
read_symbol-requires c =
    let s = c.in-Some.ensures.steps.2 in
    next_readable c.args.parts.now c.args.words.now _ _ c.in-Some.pair.now c.args.self.now c.args.roots.now
    c.loop-pair.self c.loop-pair.roots c.loop-pair.invariant.1 s.0 (s.1 ∙ c.loop-pair.invariant.0)
    c.symbol_at.result c.symbol_at.ensures c.requires.inside.1 c.unwrap-symbol.result c.unwrap-symbol.ensures
    c.requires.row_of.0 c.requires.row_of.1

pub returns-in-Err : goal.returns-in-Err
returns-in-Err c =
    let s = c.in-Some.ensures.steps.2 in
    next_stops c.args.parts.now c.args.words.now _ _ c.in-Some.pair.now c.args.self.now c.args.roots.now
    c.loop-pair.self c.loop-pair.roots c.loop-pair.invariant.1 s.0 (s.1 ∙ c.loop-pair.invariant.0)
    c.symbol_at.result c.symbol_at.ensures c.requires.inside.1 c.unwrap-symbol.result c.unwrap-symbol.ensures
    c.read_symbol.new.self c.read_symbol.new.roots c.in-Err.full c.truncate.new.self c.in-Err.ensures c.truncate.ensures

pub loop-pair-preserved : goal.loop-pair-preserved
loop-pair-preserved c =
    let s = c.in-Some.ensures.steps.2 in (
      c.in-Some.ensures.steps.0 ∙ c.loop-pair.invariant.0,
      next_read c.args.parts.now c.args.words.now _ _ c.in-Some.pair.now c.args.self.now c.args.roots.now
          c.loop-pair.self c.loop-pair.roots c.loop-pair.invariant.1 s.0 (s.1 ∙ c.loop-pair.invariant.0)
          c.symbol_at.result c.symbol_at.ensures c.requires.inside.1 c.unwrap-symbol.result c.unwrap-symbol.ensures
          c.read_symbol.new.self c.read_symbol.new.roots c.in_default.field-0 c.in_default.ensures,
    )

pub returns : goal.returns
returns c =
    all_read c.args.parts.now c.args.words.now _ c.args.self.now c.args.roots.now c.loop-pair.self c.loop-pair.roots tt
    c.loop-pair.invariant.1 (omega (arith, c.in-None.ensures.steps.2.0, c.loop-pair.invariant.0))
