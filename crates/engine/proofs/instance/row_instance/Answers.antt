-- The parts, and then the sign over them.
use Rattle.std.proofs.Common.{List, length, get_or, sym, ap, subst, arith}
use Rattle.store.specs.declared.types.Place.{Place}
use Rattle.store.proofs.Reading.{symbol_there}
use Rattle.engine.specs.Building.{RowInstanceBuilt}
use Rattle.engine.proofs.Builder.{first_turn, first_built, first_long}
use Rattle.engine.proofs.Chunks.{two_words}
use Rattle.engine.proofs.instance.row_instance.Goals as goal

pub unwrap-symbol-requires : goal.unwrap-symbol-requires
unwrap-symbol-requires c =
    let (t, f) = c.requires.few_parts.1 in
    symbol_there c.args.parts.now c.args.row.now t 1 f.row (omega arith) (two_words _ _ _ (t, f)) _ c.symbol_at.ensures

pub build_symbol-requires-clause-buildable : goal.build_symbol-requires-clause-buildable
build_symbol-requires-clause-buildable c =
    let (t, f) = c.requires.few_parts.1 in
    (first_turn c.args.parts.now c.args.row.now c.requires.few_parts.0 t c.args.store.now c.args.bindings.now f c.requires.space.1
    c.build_behind-built.new.store c.build_behind-built.result.items (c.build_behind-built.ensures t f) _ c.unwrap-symbol.result
    c.unwrap-symbol.ensures c.symbol_at.ensures).can

pub returns : goal.returns
returns c t f =
    let a = c.args.store.now in let b = c.args.bindings.now in
    subst (λ (xs : List Place). RowInstanceBuilt a b t c.build_symbol.new.store (get_or xs 0 (record { 0 = 0 }))) (sym c.as_slice.ensures.value)
    (first_built c.args.parts.now c.args.row.now c.requires.few_parts.0 t a b f c.requires.space.1
    c.build_behind-built.new.store c.build_behind-built.result.items (c.build_behind-built.ensures t f) _ c.unwrap-symbol.result
    c.unwrap-symbol.ensures c.symbol_at.ensures c.build_symbol.new.store c.build_symbol.new.built.items c.build_symbol.ensures)

pub bounds-as_slice-0 : goal.bounds-as_slice-0
bounds-as_slice-0 c =
    let (t, f) = c.requires.few_parts.1 in
    omega (
      arith,
      first_long c.args.parts.now c.args.row.now c.requires.few_parts.0 t c.args.store.now c.args.bindings.now f
          c.requires.space.1 c.build_behind-built.new.store c.build_behind-built.result.items (c.build_behind-built.ensures t f) _
          c.unwrap-symbol.result c.unwrap-symbol.ensures c.symbol_at.ensures c.build_symbol.new.store c.build_symbol.new.built.items
          c.build_symbol.ensures,
      ap length c.as_slice.ensures.value,
    )
