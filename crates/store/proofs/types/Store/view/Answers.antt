-- The term of a slot is the node of its kind.
use Rattle.std.proofs.Common.{◌≡◌, ◌+◌, ◌≤◌, sym, ap, ◌∙◌, arith}
use Rattle.store.specs.Slots.{kind_of, kind_at, tag_of, symbol_of}
use Rattle.store.proofs.Decoding.{term_is}
use Rattle.store.proofs.Viewing.{node_letter, node_sign}
use Rattle.store.proofs.types.Store.view.Goals as goal

pub returns-then-kind-lt-WORD : goal.returns-then-kind-lt-WORD
unfolding tag_of
returns-then-kind-lt-WORD c =
    let a = c.args.self.now in let ws = a.words.now in let i = c.args.p.0 in
    let e : c.kind-kind.result ≡ kind_at ws i = c.kind-kind.ensures ∙ ap kind_of c.cell.ensures in (
      omega arith,
      term_is ws a.count i a.shared.shape (omega arith)
          ∙ node_letter _ (kind_at ws i) _ _ (omega arith) (ap symbol_of (sym e) ∙ sym c.symbol-symbol.ensures),
    )

pub returns : goal.returns
unfolding tag_of
returns c =
    let a = c.args.self.now in let ws = a.words.now in let i = c.args.p.0 in
    let e : c.kind-kind.result ≡ kind_at ws i = c.kind-kind.ensures ∙ ap kind_of c.cell.ensures in
    let t : tag_of (kind_at ws i) ≤ 5 = a.shared.shape.tags i (omega arith) in
    let tag : tag_of (kind_at ws i) ≡ c.arity.result + 1 = omega arith in (
      omega arith,
      omega arith,
      term_is ws a.count i a.shared.shape (omega arith)
          ∙ node_sign _ (kind_at ws i) _ _ c.arity.result tag (ap symbol_of (sym e) ∙ sym c.symbol-symbol.ensures),
    )
