-- Each turn reads one way.
use Rattle.std.proofs.Common.{◌≡◌, ℕ, ◌+◌, ◌-◌, ◌↔◌, get_or, drop, Some, None, sym, ap, subst, rules, arith}
use Rattle.books.specs.Rows.{SomeWays}
use Rattle.books.specs.Reading.{TermsAt, TermsEnd}
use Rattle.books.specs.declared.words.Letters.TheVariants.{Any}
use Rattle.books.proofs.Waying.{none_read, no_words, no_way, way_read, ways_end, ways_all}
use Rattle.books.proofs.ways.ways_end.Goals as goal

pub returns-in_err-count : goal.returns-in_err-count
returns-in_err-count c =
    none_read _ _ _ _ c.from_residual.ensures (λ p. no_words c.args.parts.now c.args.words.now c.loop.at
    (c.args.rules - c.loop.counter) (omega arith) (search rules) (c.loop.invariant.1.0 p))

pub returns-in_err-at : goal.returns-in_err-at
returns-in_err-at c =
    let At : ℕ → Type 0 = λ k. TermsEnd Any c.args.parts.now k c.args.words.now (c.loop.at + 1) None in
    let count : c.in_ok-count.field-0.now ≡ get_or c.args.words.now c.loop.at 0 = search rules in
    none_read _ _ _ _ c.from_residual-in_err-at.ensures (λ p. no_way c.args.parts.now c.args.words.now c.loop.at (search rules)
    (c.args.rules - c.loop.counter) (omega arith) (subst At count c.in_err-at.ensures) (c.loop.invariant.1.0 p))

pub loop-preserved : goal.loop-preserved
loop-preserved c =
    let n = c.args.rules - c.loop.counter in
    let at = c.in_ok-at.ensures in
    let At : ℕ → Type 0 = λ k. TermsAt Any c.args.parts.now k c.args.words.now (c.loop.at + 1) c.in_ok-at.at in
    let count : c.in_ok-count.field-0.now ≡ get_or c.args.words.now c.loop.at 0 = search rules in
    let less : n - 1 ≡ c.args.rules - (c.loop.counter + 1) = omega arith in
    let Left : ℕ → ℕ → Type 0 = λ k i. SomeWays c.args.parts.now k (drop i c.args.words.now) in
    let both : Left n c.loop.at ↔ Left (c.args.rules - (c.loop.counter + 1)) c.in_ok-at.at =
    subst (λ (k : ℕ). Left n c.loop.at ↔ Left k c.in_ok-at.at) less
    (way_read c.args.parts.now c.args.words.now c.loop.at (search rules) c.in_ok-at.at n (omega arith) (subst At count at)) in
    (at.within, (λ p. both.0 (c.loop.invariant.1.0 p), λ p. c.loop.invariant.1.1 (both.1 p)))

pub returns : goal.returns
returns c =
    let none_left : c.args.rules - c.loop.counter ≡ 0 = omega arith in
    let Left : ℕ → Type 0 = λ n. SomeWays c.args.parts.now n (drop c.loop.at c.args.words.now) in (
      λ e. c.loop.invariant.1.1 (subst Left (sym none_left) (ways_all c.args.parts.now c.args.words.now c.loop.at cc)),
      λ p. ap Some (ways_end c.args.parts.now c.args.words.now c.loop.at c.loop.invariant.0
          (subst Left none_left (c.loop.invariant.1.0 p))),
    )
