-- A term is read, brought to normal form, and written.
use Rattle.std.proofs.Common.{ℕ, ◌*◌, Err, ap, ◌∙◌, subst, arith}
use Rattle.std.proofs.Math.Logic.{∥∥₁_map}
use Rattle.std.proofs.lemmas.Result.{err_from_is_err_and}
use Rattle.rewriting.specs.Terms.{Term, size}
use Rattle.books.specs.Rows.{row}
use Rattle.books.specs.Books.{told}
use Rattle.store.specs.Stores.{term_in}
use Rattle.store.specs.Transfers.{WrittenOrShort}
use Rattle.engine.proofs.Honesty.{honest_carried}
use Rattle.engine.proofs.Pairing.{none_inside}
use Rattle.calls.proofs.Through.{few_parts, row_here, loading, startable, one_root, normal, not_read, stopped}
use Rattle.calls.proofs.Through.{cells_long, refused}
use Rattle.calls.proofs.rows.through.Goals as goal

pub read_row-requires : goal.read_row-requires
read_row-requires c =
    let k = c.args.reducer.now.rules.now.book in
    let (t, of) = c.requires.of in
    record {
      inside = (none_inside _ _ c.requires.empty.1, few_parts k _ c.parts.ensures);
      row_of = (t, row_here k _ c.parts.ensures c.args.term.now t of);
    }

pub invariant_of-reducer : goal.invariant_of-reducer
invariant_of-reducer c =
    let r = c.args.reducer.now in
    let (t, of) = c.requires.of in
    let read = c.read_row.ensures t (row_here r.rules.now.book _ c.parts.ensures c.args.term.now t of) in
    record { honest = ∥∥₁_map r.honest (λ h. honest_carried _ _ _ h read.carried) }

pub normalize-requires : goal.normalize-requires
normalize-requires c =
    startable _ _ _ _ _
    (loading _ _ _ c.args.reducer.now.work.now _ _ _ c.requires.of c.requires.empty c.parts.ensures c.in_ok-read_row.ensures)

pub place-normal-requires : goal.place-normal-requires
place-normal-requires c =
    let d = loading _ _ _ c.args.reducer.now.work.now _ _ _ c.requires.of c.requires.empty c.parts.ensures
    c.in_ok-read_row.ensures in
    let x = c.in_ok-normalize.ensures.normal in
    omega (arith, one_root _ _ _ _ _ d _ x, x.inside.fits)

pub write_row-requires : goal.write_row-requires
write_row-requires c =
    let d = loading _ _ _ c.args.reducer.now.work.now _ _ _ c.requires.of c.requires.empty c.parts.ensures
    c.in_ok-read_row.ensures in
    let x = c.in_ok-normalize.ensures.normal in
    let one = one_root _ _ _ _ _ d _ x in
    (x.inside, omega (arith, c.place-normal.ensures, x.inside.low 0 (omega (arith, one))))

pub returns : goal.returns
returns c =
    let d = loading _ _ _ c.args.reducer.now.work.now _ _ _ c.requires.of c.requires.empty c.parts.ensures
    c.in_ok-read_row.ensures in
    let w = c.in_ok-written.ensures.written in
    let e = ap (λ (j : ℕ). term_in c.normalize.new.self.work.now.store j) c.place-normal.ensures in
    λ n m. (_, normal _ _ _ _ _ d _ c.in_ok-normalize.ensures.normal, w.0 ∙ ap (λ (x : Term). 2 * size x) e, w.1 ∙ ap row e)

pub returns-in_err-read_row : goal.returns-in_err-read_row
returns-in_err-read_row c =
    let d = loading c.args.reducer.now.rules.now.book _ _ c.args.reducer.now.work.now _ _ _ c.requires.of c.requires.empty c.parts.ensures
    c.in_err-read_row.ensures in
    let p = err_from_is_err_and c.from_residual.result c.from_residual.ensures.1 in
    rw (p.1, p.2) λ n m. not_read _ _ _ _ _ _ d n m

pub returns-in_err-normalize : goal.returns-in_err-normalize
returns-in_err-normalize c =
    let d = loading _ _ _ c.args.reducer.now.work.now _ _ _ c.requires.of c.requires.empty c.parts.ensures
    c.in_ok-read_row.ensures in
    let p = err_from_is_err_and c.from_residual-in_err-normalize.result c.from_residual-in_err-normalize.ensures.1 in
    rw (p.1, p.2) λ n m. stopped _ _ _ _ _ d _ _ c.in_err-normalize.ensures.normal n m

pub returns-in_err-written : goal.returns-in_err-written
returns-in_err-written c =
    let d = loading _ _ _ c.args.reducer.now.work.now _ _ _ c.requires.of c.requires.empty c.parts.ensures
    c.in_ok-read_row.ensures in
    let x = c.in_ok-normalize.ensures.normal in
    let e = ap (λ (j : ℕ). term_in c.normalize.new.self.work.now.store j) c.place-normal.ensures in
    let w = subst (λ (y : Term). WrittenOrShort c.normalize.new.self.work.now.roots y c.args.out.now c.write_row.new.out
    (Err c.in_err-written.field-0.0)) e c.in_err-written.ensures.written in
    let p = err_from_is_err_and c.from_residual-in_err-written.result c.from_residual-in_err-written.ensures.1 in
    rw (p.1, p.2) λ n m.
    refused (told c.args.reducer.now.rules.now.book) c.args.term.now c.args.out.now c.write_row.new.out
    c.normalize.new.self.work.now.roots _ n (one_root _ _ _ _ _ d _ x) (cells_long _ _ _ _ _ d _ x n m) (normal _ _ _ _ _ d _ x) _ w
