-- Each turn reads one symbol.
use Rattle.std.proofs.Common.{◌≡◌, ℕ, ◌+◌, ◌*◌, ◌<◌, ◌≤◌, length, drop, sym, ap, ◌∙◌, arith, length-drop}
use Rattle.books.specs.Reading.{read, left_of}
use Rattle.books.proofs.Scanning.{left_few, turn, stuck, no_symbol, ended, none_there}
use Rattle.books.proofs.words.terms_end.Goals as goal

pub returns-then-pending-words : goal.returns-then-pending-words
returns-then-pending-words c =
    let few : length (drop c.loop-pending.i c.args.words.now) < 2 * c.loop-pending.pending =
    omega (arith, length-drop c.loop-pending.i c.args.words.now) in
    none_there c.args.letters c.args.parts.now c.args.words.now c.args.count c.args.at
    (sym c.loop-pending.invariant.2
    ∙ left_few c.args.letters c.args.parts.now c.loop-pending.pending (drop c.loop-pending.i c.args.words.now) few)

pub returns-in_err-symbol : goal.returns-in_err-symbol
returns-in_err-symbol c =
    let room : c.loop-pending.i + 2 ≤ length c.args.words.now = omega arith in
    rw c.from_residual.ensures (none_there c.args.letters c.args.parts.now c.args.words.now c.args.count c.args.at
    (sym c.loop-pending.invariant.2
    ∙ no_symbol c.args.letters c.args.parts.now c.args.words.now c.loop-pending.pending c.loop-pending.i
    c.loop-pending-test.true room (c.in_err-symbol.ensures room)))

pub returns-in_err-pending : goal.returns-in_err-pending
returns-in_err-pending c =
    rw c.from_residual-in_err-pending.ensures (none_there c.args.letters c.args.parts.now c.args.words.now c.args.count c.args.at
    (sym c.loop-pending.invariant.2
    ∙ stuck c.args.letters c.args.parts.now c.args.words.now c.loop-pending.pending c.loop-pending.i
    c.in_ok-symbol.symbol c.loop-pending-test.true c.in_ok-symbol.ensures c.in_err-pending.ensures.is))

pub loop-pending-preserved : goal.loop-pending-preserved
loop-pending-preserved c = (
  c.in_ok-symbol.ensures.0,
  omega (arith, c.loop-pending.invariant.1),
  sym (turn c.args.letters c.args.parts.now c.args.words.now c.loop-pending.pending c.loop-pending.i
      c.in_ok-pending.field-0 c.in_ok-symbol.symbol c.loop-pending-test.true c.in_ok-symbol.ensures c.in_ok-pending.ensures.is)
      ∙ c.loop-pending.invariant.2,
)

pub returns : goal.returns
returns c =
    let done : c.loop-pending.pending ≡ 0 = omega arith in
    ended c.args.letters c.args.parts.now c.args.words.now c.args.count c.args.at c.loop-pending.i
    c.loop-pending.invariant.1 c.loop-pending.invariant.0
    (sym c.loop-pending.invariant.2
    ∙ ap (λ (k : ℕ). left_of (read c.args.letters c.args.parts.now k (drop c.loop-pending.i c.args.words.now))) done)
