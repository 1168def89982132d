-- A turn for each equation.
use Rattle.std.proofs.Common.{Bool, Ok, Err, subst, arith}
use Rattle.std.proofs.lemmas.Result.{err_from_is_err_and}
use Rattle.books.specs.Books.{equation_in, sound_book_in}
use Rattle.engine.specs.Meeting.{Compares}
use Rattle.engine.proofs.Keeping.{idle_then}
use Rattle.equal.proofs.Sides.{ample_on, equation_still, compares_still, kept_more, kept_all, is_lost}
use Rattle.equal.proofs.equations.first_lost.Goals as goal

pub sides_meet-requires : goal.sides_meet-requires
sides_meet-requires c =
    let b = c.args.reducer.now.rules.now.book in
    let idle = c.loop-i.invariant.0 in
    record {
      none = idle.idle.none;
      equation = equation_still idle c.loop-i.i
          (omega (arith, c.loop-i-test.true, c.equations-i-end.ensures, (sound_book_in b).laid.equations));
      room = (c.requires.room.0, ample_on idle c.requires.room.1);
    }

pub loop-i-preserved : goal.loop-i-preserved
loop-i-preserved c =
    let b = c.args.reducer.now.rules.now.book in
    let idle = c.loop-i.invariant.0 in
    let n = c.requires.room in
    let e = equation_in b c.loop-i.i in (
      idle_then idle c.sides_meet.ensures.idle,
      kept_more b n.0 c.loop-i.i c.loop-i.invariant.1
          (subst (λ (x : Bool). Compares b n.0 e.left e.right (Ok x)) c.if-not-meet.false
          (compares_still idle n.0 c.loop-i.i (Ok c.in_ok-meet.meet) (c.in_ok-meet.ensures.result n.0 (ample_on idle n.1)))),
    )

pub returns-in_err-meet-clause-idle : goal.returns-in_err-meet-clause-idle
returns-in_err-meet-clause-idle c = idle_then c.loop-i.invariant.0 c.sides_meet.ensures.idle

pub returns-in_err-meet-clause-result : goal.returns-in_err-meet-clause-result
returns-in_err-meet-clause-result c n a =
    let b = c.args.reducer.now.rules.now.book in
    let idle = c.loop-i.invariant.0 in
    let p = err_from_is_err_and c.from_residual.result c.from_residual.ensures.1 in
    rw p.1 (
      c.loop-i.i,
      omega (arith, c.loop-i-test.true, c.equations-i-end.ensures, (sound_book_in b).laid.equations),
      compares_still idle n c.loop-i.i (Err c.in_err-meet.field-0.0) (c.in_err-meet.ensures.result n (ample_on idle a)),
    )

pub returns-then-not-meet-clause-idle : goal.returns-then-not-meet-clause-idle
returns-then-not-meet-clause-idle c = idle_then c.loop-i.invariant.0 c.sides_meet.ensures.idle

pub returns-then-not-meet-clause-result : goal.returns-then-not-meet-clause-result
returns-then-not-meet-clause-result c n a =
    let b = c.args.reducer.now.rules.now.book in
    let idle = c.loop-i.invariant.0 in
    let e = equation_in b c.loop-i.i in
    is_lost b c.requires.one_end n c.loop-i.i
    (omega (arith, c.loop-i-test.true, c.equations-i-end.ensures, (sound_book_in b).laid.equations)) c.loop-i.invariant.1
    (subst (λ (x : Bool). Compares b n e.left e.right (Ok x)) c.if-not-meet.true
    (compares_still idle n c.loop-i.i (Ok c.in_ok-meet.meet) (c.in_ok-meet.ensures.result n (ample_on idle a))))

pub returns-clause-result : goal.returns-clause-result
returns-clause-result c n a =
    let b = c.args.reducer.now.rules.now.book in
    kept_all b c.loop-i.i (omega (arith, c.loop-i-test.false, c.equations-i-end.ensures, (sound_book_in b).laid.equations))
    c.loop-i.invariant.1
