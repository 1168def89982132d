-- Each turn shows one rule.
use Rattle.std.proofs.Common.{◌<◌, None, Some, Option, length, sym, refl, ap, subst, arith, rules}
use borrow.Author.Tests.{clash}
use Rattle.rewriting.specs.Answers.{Tells}
use Rattle.std.specs.Option.{is_some}
use Rattle.books.specs.Books.{told, sound_book_in}
use Rattle.ways.specs.Showing.{Shown}
use Rattle.ways.proofs.Following.{kept_same, kept_then, way_on}
use Rattle.ways.proofs.Remaining.{left_start, next_within, left_more, left_stop}
use Rattle.ways.proofs.walk.Walk.each.Goals as goal

pub loop-i-init : goal.loop-i-init
loop-i-init c = (
  kept_same c.args.self.now,
  left_start c.args.self.now.book.now c.args.self.now.ways.now _ _ refl refl c.requires,
)

pub offset_bounds-self-at : goal.offset_bounds-self-at
offset_bounds-self-at c =
    let w = c.args.self.now in
    let low : c.loop-i.i < length (told w.book.now).rules = omega (arith, c.rules-i-end.ensures, (sound_book_in w.book.now).laid.rules) in
    let within = next_within w.book.now w.ways.now c.loop-i.i c.loop-i.at c.loop-i.invariant.1 low in
    let same = ap length c.loop-i.invariant.0.ways in
    search rules

pub bounds-self-at : goal.bounds-self-at
bounds-self-at c =
    let w = c.args.self.now in
    let low : c.loop-i.i < length (told w.book.now).rules = omega (arith, c.rules-i-end.ensures, (sound_book_in w.book.now).laid.rules) in
    omega (arith, next_within w.book.now w.ways.now c.loop-i.i c.loop-i.at c.loop-i.invariant.1 low, ap length c.loop-i.invariant.0.ways)

pub overflow_add-at : goal.overflow_add-at
overflow_add-at c =
    let w = c.args.self.now in
    let low : c.loop-i.i < length (told w.book.now).rules = omega (arith, c.rules-i-end.ensures, (sound_book_in w.book.now).laid.rules) in
    let within = next_within w.book.now w.ways.now c.loop-i.i c.loop-i.at c.loop-i.invariant.1 low in
    let same = ap length c.loop-i.invariant.0.ways in
    search rules

pub returns-in_err-at-clause-kept : goal.returns-in_err-at-clause-kept
returns-in_err-at-clause-kept c = kept_then c.args.self.now c.loop-i.self c.way.new.self c.loop-i.invariant.0 c.way.ensures.kept

pub returns-in_err-at-clause-told : goal.returns-in_err-at-clause-told
returns-in_err-at-clause-told c =
    let w = c.args.self.now in
    let low : c.loop-i.i < length (told w.book.now).rules = omega (arith, c.rules-i-end.ensures, (sound_book_in w.book.now).laid.rules) in
    subst (λ (x : Option _). Tells (is_some x) (Shown w.book.now w.ways.now)) (sym c.from_residual.ensures) (record {
      holds = λ z. absurd (clash z);
      fails = λ z. left_stop w.book.now w.ways.now c.loop-i.i c.loop-i.at c.loop-i.invariant.1 low
          (way_on w c.loop-i.self c.loop-i.invariant.0 c.loop-i.at c.loop-i.i None c.in_err-at.ensures.told);
    })

pub loop-i-preserved : goal.loop-i-preserved
loop-i-preserved c =
    let w = c.args.self.now in
    let low : c.loop-i.i < length (told w.book.now).rules = omega (arith, c.rules-i-end.ensures, (sound_book_in w.book.now).laid.rules) in (
      kept_then w c.loop-i.self c.way.new.self c.loop-i.invariant.0 c.way.ensures.kept,
      left_more w.book.now w.ways.now c.loop-i.i c.loop-i.at c.loop-i.invariant.1 low c.in_ok-at.at
          (way_on w c.loop-i.self c.loop-i.invariant.0 c.loop-i.at c.loop-i.i (Some c.in_ok-at.at) c.in_ok-at.ensures.told),
    )
