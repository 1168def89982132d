-- The parts of a sign come in its place.
use Rattle.std.proofs.Common.{◌≡◌, ℕ, ◌-◌, length, sym, refl, ap, ◌∙◌, arith, rules}
use Rattle.rewriting.specs.Terms.{sign}
use Rattle.store.specs.Stores.{term_in, parts_in, held}
use Rattle.store.proofs.Emitting.{no_cell, sign_count, sign_words, sign_written}
use Rattle.store.proofs.Writing.{two_copied}
use Rattle.store.proofs.types.Store.write_symbol.Goals as goal

pub returns-in_ok-push_parts-in-Sign-clause-symbol : goal.returns-in_ok-push_parts-in-Sign-clause-symbol
returns-in_ok-push_parts-in-Sign-clause-symbol c =
    let a = c.args.self.now in let q = c.args.roots.now in let u = c.truncate.new.self in
    let p = c.place-p.result.0 in let f = c.in-Sign.f in let n = c.in-Sign.n in let i = c.requires.0 in
    let e : held a q (q.top - 1) ≡ sign f (parts_in a p n) = ap (λ (x : ℕ). term_in a x) (sym c.place-p.ensures)
    ∙ c.in-Sign.ensures.2 in (
      sign_written a q p f n u e c.truncate.ensures i c.push_parts.new.roots c.in_ok-push_parts-in-Sign.ensures,
      omega arith,
      two_copied c.args.out.now c.copy_from_slice-in-Sign.new.self c.args.at _ 1 f (omega arith) (search rules) (omega arith)
          ∙ sign_words a q p f n u e c.truncate.ensures i c.args.out.now c.args.at,
    )

pub returns-in_err-push_parts-in-Sign-clause-symbol : goal.returns-in_err-push_parts-in-Sign-clause-symbol
returns-in_err-push_parts-in-Sign-clause-symbol c =
    let a = c.args.self.now in let q = c.args.roots.now in let u = c.truncate.new.self in
    let p = c.place-p.result.0 in let f = c.in-Sign.f in let n = c.in-Sign.n in let i = c.requires.0 in
    let cut = c.truncate.ensures in
    let e : held a q (q.top - 1) ≡ sign f (parts_in a p n) = ap (λ (x : ℕ). term_in a x) (sym c.place-p.ensures)
    ∙ c.in-Sign.ensures.2 in
    rw (no_cell c.from_residual.result c.from_residual.ensures.1)
    (refl, λ g. c.in_err-push_parts-in-Sign.ensures.2 (omega (arith, sign_count a q p f n u e cut i, ap length cut.cells, cut.top)))
