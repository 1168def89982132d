-- Each symbol that is written leaves the rest on the roots.
use Rattle.std.proofs.Common.{◌≡◌, ℕ, Err, ap, ◌∙◌, subst, arith}
use Rattle.rewriting.specs.Terms.{size}
use Rattle.rewriting.proofs.Glueing.{size_some}
use Rattle.books.specs.Rows.{row}
use Rattle.store.specs.Stores.{term_in, held}
use Rattle.store.specs.Transfers.{WrittenOrShort}
use Rattle.store.proofs.Emitting.{no_cell, not_begun, emitted_more, fewer, emitted_all, emitted_short}
use Rattle.store.proofs.types.Store.write_row.Goals as goal

pub returns-in_err-push-clause-written : goal.returns-in_err-push-clause-written
returns-in_err-push-clause-written c =
    rw (no_cell c.from_residual.result c.from_residual.ensures.1) (
      not_begun (term_in c.args.self.now c.args.p.0) c.args.out.now,
      λ f. c.in_err-push.ensures.2 (omega (arith, size_some (term_in c.args.self.now c.args.p.0))),
    )

pub returns-in-Err-clause-written : goal.returns-in-Err-clause-written
returns-in-Err-clause-written c =
    let a = c.args.self.now in let q = c.args.roots.now in let x = c.in_ok-push.ensures.0 in
    let s = c.push.new.self in let r = c.loop-roots.roots in
    let vs = c.args.out.now in let xs = c.write_symbol.new.out in
    subst (λ (p : ℕ). WrittenOrShort q (term_in a p) vs xs (Err c.in-Err.short)) x.is
    (emitted_short a q s (held a s q.top) vs c.loop-roots.at r c.loop-roots.out c.loop-roots.invariant (omega arith) x.long
    c.write_symbol.new.roots xs c.in-Err.short c.in-Err.ensures.symbol)

pub loop-roots-smaller : goal.loop-roots-smaller
loop-roots-smaller c =
    let a = c.args.self.now in let q = c.args.roots.now in let s = c.push.new.self in
    let h = c.in_default.ensures in
    fewer a q.top s (held a s q.top) c.args.out.now c.loop-roots.at c.loop-roots.roots c.loop-roots.out
    c.loop-roots.invariant
    (omega arith) c.write_symbol.new.roots c.write_symbol.new.out h.below h.symbol.0 h.symbol.1 h.symbol.2

pub loop-roots-preserved : goal.loop-roots-preserved
loop-roots-preserved c =
    let a = c.args.self.now in let q = c.args.roots.now in let s = c.push.new.self in
    let h = c.in_default.ensures in
    emitted_more a q.top s (held a s q.top) c.args.out.now c.loop-roots.at c.loop-roots.roots c.loop-roots.out
    c.loop-roots.invariant
    (omega arith) c.write_symbol.new.roots c.write_symbol.new.out h.below h.symbol.0 h.symbol.1 h.symbol.2

pub returns-clause-written : goal.returns-clause-written
returns-clause-written c =
    let a = c.args.self.now in let q = c.args.roots.now in let i = c.loop-roots.invariant in
    let s = c.push.new.self in
    let t : held a s q.top ≡ term_in a c.args.p.0 = ap (λ (p : ℕ). term_in a p) c.in_ok-push.ensures.0.is in
    let d = emitted_all a q.top s (held a s q.top) c.args.out.now c.loop-roots.at c.loop-roots.roots c.loop-roots.out i (omega arith) in
    (omega (arith, d.0, ap size t), d.1 ∙ ap row t, i.tail)
