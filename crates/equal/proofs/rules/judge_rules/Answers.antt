-- One check after the other.
use Rattle.std.proofs.Common.{ℕ, Ok, Err, Option, sym, subst, inl}
use Rattle.std.proofs.lemmas.Result.{err_from_is_err_and}
use Rattle.std.proofs.Math.Logic.{∥∥₁_map}
use Rattle.rewriting.specs.Answers.{Tells}
use Rattle.books.specs.Books.{sound_book_in}
use Rattle.order.specs.declared.terminating.Terminating.{Terminating}
use Rattle.engine.proofs.Honesty.{honest_carried}
use Rattle.engine.proofs.Keeping.{down_in, idle_then}
use Rattle.overlaps.proofs.Verdicts.{one_end_if_found, apart_if_not, large_of}
use Rattle.ways.specs.Showing.{Shown}
use Rattle.equal.specs.Judging.{EquationsSay, RulesSay}
use Rattle.equal.proofs.Sides.{ample_on, one_end_still, equations_still}
use Rattle.equal.proofs.Verdict.{side_large, said_by_ways}
use Rattle.equal.proofs.rules.judge_rules.Goals as goal

pub returns-in_err-one-clause-result : goal.returns-in_err-one-clause-result
returns-in_err-one-clause-result c n e =
    let p = err_from_is_err_and c.from_residual.result c.from_residual.ensures.1 in
    let h = large_of c.args.reducer.now.rules.now.book (c.in_err-one.ensures.result n e.for_book.ample) in
    rw p.1 (h.0, h.1, inl h.2, h.3, h.4)

pub returns-then-not-one-clause-result : goal.returns-then-not-one-clause-result
returns-then-not-one-clause-result c n e =
    apart_if_not c.args.reducer.now.rules.now.book n _ c.if-not-one.true (c.in_ok-one.ensures.result n e.for_book.ample)

pub first_lost-requires : goal.first_lost-requires
first_lost-requires c =
    let b = c.args.reducer.now.rules.now.book in
    let d = c.one_end.ensures.idle in
    let (n, e) = c.requires.room in
    record {
      none = d.idle.none;
      one_end = one_end_still d (one_end_if_found b (down_in c.args.reducer.now) n _ c.if-not-one.false
          (c.in_ok-one.ensures.result n e.for_book.ample));
      room = (n, ample_on d e.for_book);
    }

pub returns-in_err-lost-clause-idle : goal.returns-in_err-lost-clause-idle
returns-in_err-lost-clause-idle c = idle_then c.one_end.ensures.idle c.first_lost.ensures.idle

pub returns-in_err-lost-clause-result : goal.returns-in_err-lost-clause-result
returns-in_err-lost-clause-result c n e =
    let b = c.args.reducer.now.rules.now.book in
    let d = c.one_end.ensures.idle in
    let p = err_from_is_err_and c.from_residual-in_err-lost.result c.from_residual-in_err-lost.ensures.1 in
    let h = equations_still d n (Err c.in_err-lost.field-0.0) (c.in_err-lost.ensures.result n (ample_on d e.for_book)) in
    rw p.1 (side_large b (sound_book_in b) n h.0 h.1 h.2)

pub returns-in-Some-clause-idle : goal.returns-in-Some-clause-idle
returns-in-Some-clause-idle c = idle_then c.one_end.ensures.idle c.first_lost.ensures.idle

pub returns-in-Some-clause-result : goal.returns-in-Some-clause-result
returns-in-Some-clause-result c n e =
    let b = c.args.reducer.now.rules.now.book in
    let d = c.one_end.ensures.idle in
    let lost = equations_still d n (Ok c.in_ok-lost.lost) (c.in_ok-lost.ensures.result n (ample_on d e.for_book)) in (
      one_end_if_found b (down_in c.args.reducer.now) n _ c.if-not-one.false (c.in_ok-one.ensures.result n e.for_book.ample),
      subst (λ (x : Option ℕ). EquationsSay b n (Ok x)) c.in-Some.is lost,
    )

pub returns-in-None-clause-result : goal.returns-in-None-clause-result
returns-in-None-clause-result c n e =
    let b = c.args.reducer.now.rules.now.book in
    let d = c.one_end.ensures.idle in
    let one = one_end_if_found b (down_in c.args.reducer.now) n _ c.if-not-one.false (c.in_ok-one.ensures.result n e.for_book.ample) in
    let lost = equations_still d n (Ok c.in_ok-lost.lost) (c.in_ok-lost.ensures.result n (ample_on d e.for_book)) in
    let shown = subst (λ (t : Terminating). Tells c.shown-shown.result (Shown t.book c.args.ways.now))
    (idle_then d c.first_lost.ensures.idle).lent.rules c.shown-shown.ensures.told in
    subst (RulesSay b c.args.ways.now n) (sym c.by_ways.ensures)
    (said_by_ways b c.args.ways.now n one (subst (λ (x : Option ℕ). EquationsSay b n (Ok x)) c.in-None.is lost)
    c.shown-shown.result shown)

pub invariant_of-reducer : goal.invariant_of-reducer
invariant_of-reducer c = record {
  honest = ∥∥₁_map c.first_lost.new.reducer.honest (λ h. honest_carried _ _ _ h c.shown-shown.ensures.kept.carried);
}
