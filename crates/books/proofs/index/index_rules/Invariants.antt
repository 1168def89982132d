-- The rules from i on are in the index.
use Rattle.std.proofs.Common.{◌≡◌, length}
use Rattle.books.specs.Indexing.{IndexedFrom, top_word}
use Rattle.books.proofs.index.index_rules.Given as goal

abbrev pub invariant-loop-i : goal.invariant-loop-i
invariant-loop-i l = IndexedFrom (λ i. top_word l.words l.starts l.equations i) l.rules l.i l.first l.next
    × (length l.first ≡ 32) × (length l.next ≡ 64)
