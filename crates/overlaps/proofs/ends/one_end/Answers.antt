-- One overlap more; all symbols; all second rules; all rules.
use Rattle.std.proofs.Common.{Bool, false, Ok, Err, length, sym, ap, subst, arith}
use Rattle.std.proofs.lemmas.Result.{err_from_is_err_and}
use Rattle.books.specs.Books.{rule_in, sound_book_in}
use Rattle.books.proofs.Glueing.{row_length}
use Rattle.engine.proofs.Keeping.{idle_then, ample_still}
use Rattle.overlaps.specs.Verdict.{OneEndSays, OverlapSays}
use Rattle.overlaps.proofs.Going.{rule_still, symbol_still, says_still, joined_more, joined_symbols, joined_rules}
use Rattle.overlaps.proofs.Verdicts.{all_resolved, first_failing}
use Rattle.overlaps.proofs.ends.one_end.Goals as goal

pub results_meet-requires : goal.results_meet-requires
results_meet-requires c =
    let b = c.args.reducer.now.rules.now.book in
    let d = idle_then (idle_then c.pairs.invariant.idle c.loop-j.invariant.idle) c.loop-k.invariant.idle in
    record {
      none = d.idle.none;
      room = (c.requires.room.0, ample_still d.idle c.requires.room.1);
      rules = (
        rule_still d _ (omega (arith, c.pairs-test.true, c.rules-rules.ensures, (sound_book_in b).laid.rules)),
        rule_still d _ (omega (arith, c.loop-j-test.true, c.rules-rules.ensures, (sound_book_in b).laid.rules)),
      );
      symbol = symbol_still d _ _ (omega (arith, c.loop-k-test.true, ap length c.rule.ensures.left, row_length (rule_in b c.pairs.i).left));
    }

pub loop-k-preserved : goal.loop-k-preserved
loop-k-preserved c =
    let b = c.args.reducer.now.rules.now.book in
    let i = c.pairs.i in
    let j = c.loop-j.j in
    let k = c.loop-k.k in
    let n = c.requires.room.0 in
    let d = idle_then (idle_then c.pairs.invariant.idle c.loop-j.invariant.idle) c.loop-k.invariant.idle in
    let told = says_still d n i j k (Ok c.in_ok-meet.meet) (c.in_ok-meet.ensures.result n (ample_still d.idle c.requires.room.1)) in
    record {
      idle = idle_then c.loop-k.invariant.idle c.results_meet.ensures.idle;
      joined = joined_more b i j k c.loop-k.invariant.joined
          (subst (λ (x : Bool). OverlapSays b n i j k (Ok x)) c.if-not-meet.false told);
      none = c.loop-k.invariant.none;
    }

pub returns-in_err-meet-clause-result : goal.returns-in_err-meet-clause-result
returns-in_err-meet-clause-result c n a =
    let i = c.pairs.i in
    let j = c.loop-j.j in
    let k = c.loop-k.k in
    let d = idle_then (idle_then c.pairs.invariant.idle c.loop-j.invariant.idle) c.loop-k.invariant.idle in
    let p = err_from_is_err_and c.from_residual.result c.from_residual.ensures.1 in
    let e = Err c.in_err-meet.field-0.0 in
    rw p.1 (first_failing c.args.reducer.now.rules.now.book n i j k e c.loop-k.invariant.joined
    (says_still d n i j k e (c.in_err-meet.ensures.result n (ample_still d.idle a))))

pub returns-then-not-meet-clause-result : goal.returns-then-not-meet-clause-result
returns-then-not-meet-clause-result c n a =
    let b = c.args.reducer.now.rules.now.book in
    let i = c.pairs.i in
    let j = c.loop-j.j in
    let k = c.loop-k.k in
    let d = idle_then (idle_then c.pairs.invariant.idle c.loop-j.invariant.idle) c.loop-k.invariant.idle in
    let told = says_still d n i j k (Ok c.in_ok-meet.meet) (c.in_ok-meet.ensures.result n (ample_still d.idle a)) in
    first_failing b n i j k (Ok false) c.loop-k.invariant.joined
    (subst (λ (x : Bool). OverlapSays b n i j k (Ok x)) c.if-not-meet.true told)

pub loop-j-preserved : goal.loop-j-preserved
loop-j-preserved c =
    let b = c.args.reducer.now.rules.now.book in
    record {
      idle = idle_then c.loop-j.invariant.idle c.loop-k.invariant.idle;
      joined = joined_symbols b c.pairs.i c.loop-j.j c.loop-k.k
          (omega (arith, ap length c.rule.ensures.left, row_length (rule_in b c.pairs.i).left)) c.loop-k.invariant.joined;
      none = c.loop-k.invariant.none;
    }

pub pairs-preserved : goal.pairs-preserved
pairs-preserved c =
    let b = c.args.reducer.now.rules.now.book in
    record {
      idle = idle_then c.pairs.invariant.idle c.loop-j.invariant.idle;
      joined = joined_rules b c.pairs.i c.loop-j.j 0
          (omega (arith, c.rules-rules.ensures, (sound_book_in b).laid.rules)) c.loop-j.invariant.joined;
      none = c.loop-j.invariant.none;
    }

pub returns-after-pairs-clause-result : goal.returns-after-pairs-clause-result
returns-after-pairs-clause-result c n a =
    let b = c.args.reducer.now.rules.now.book in
    subst (λ (x : Bool). OneEndSays b n (Ok x)) (sym c.pairs.invariant.none)
    (all_resolved b c.pairs.i 0 0 (omega (arith, c.rules-rules.ensures, (sound_book_in b).laid.rules)) c.pairs.invariant.joined)
