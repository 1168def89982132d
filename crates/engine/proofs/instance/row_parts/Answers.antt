-- All that is built is the parts.
use Rattle.std.proofs.Common.{arith}
use Rattle.engine.proofs.Builder.{behind_count, parts_built}
use Rattle.engine.proofs.instance.row_parts.Goals as goal

pub returns : goal.returns
returns c t f = parts_built c.args.parts.now c.args.row.now c.requires.few_parts.0 t c.args.store.now c.args.bindings.now f c.requires.space.1
    c.args.n c.build_behind-built.new.store c.build_behind-built.result.items (c.build_behind-built.ensures t f) c.requires.arity.0
    (c.requires.arity.1 t f) c.take.result c.take.new.built.items c.take.ensures

pub take-requires : goal.take-requires
take-requires c =
    let (t, f) = c.requires.few_parts.1 in (
      c.requires.arity.0,
      omega (
        arith,
        behind_count t c.args.store.now c.args.bindings.now c.build_behind-built.new.store c.build_behind-built.result.items
            (c.build_behind-built.ensures t f),
        c.requires.arity.1 t f,
      ),
    )
