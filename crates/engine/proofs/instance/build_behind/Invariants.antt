-- What is behind the words that are left is built.
use Rattle.std.proofs.Common.{◌≡◌, ◌++◌, take}
use Rattle.engine.proofs.Chunks.{BuiltTo}
use Rattle.engine.proofs.instance.build_behind.Given as goal

abbrev pub invariant-loop-pair : goal.invariant-loop-pair
invariant-loop-pair l = (l.pair-iterator.size ≡ 2)
    × BuiltTo l.parts l.row l.bindings l.initial.store (take 2 l.row ++ l.pair-iterator.rest.now) l.store l.built.items
