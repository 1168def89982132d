-- Some rule does not go down.
use Rattle.std.proofs.Common.{length, Err, sym, ◌∙◌, subst}
use Rattle.std.proofs.lemmas.Result.{err_from_is_err_and}
use Rattle.books.specs.Books.{RowRead}
use Rattle.calls.specs.declared.types.Refusal.{Refusal}
use Rattle.calls.specs.Calls.{Answers}
use Rattle.calls.proofs.Through.{up_first, up_not_down}
use Rattle.calls.proofs.rows.answer.Goals as goal

pub returns-in_err-rules : goal.returns-in_err-rules
returns-in_err-rules c =
    let k = c.in_ok-book.book in
    let e = subst (RowRead c.args.words.now) c.in_ok-book.ensures.ok_part c.read.ensures in
    let (i, is, up) = up_first k _ _ _ c.new.ensures c.map_err.ensures.cases c.in_err-rules.was in
    let p = err_from_is_err_and c.from_residual-in_err-rules.result c.from_residual-in_err-rules.ensures.1 in
    let up_here = subst (λ (f : Refusal). Answers c.args.words.now c.args.term.now (length c.args.work.now) (length c.args.out.now)
    c.args.out.now (Err f)) (sym (p.2 ∙ is)) (rw (sym e) (k.reads, up_not_down k i up.0 up.1)) in
    rw p.1 up_here
