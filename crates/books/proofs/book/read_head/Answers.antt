-- Each refusal contradicts what the row of a book begins with.
use Rattle.std.proofs.Common.{◌≡◌, ℕ, ◌+◌, ◌-◌, ◌*◌, get_or, take, drop, rules, ap, ap₂, inl, inr, arith}
use Rattle.books.specs.Reading.{signs_of}
use Rattle.books.proofs.Heads.{head_of}
use Rattle.books.proofs.Building.{book_parts, book_ranks}
use Rattle.books.proofs.book.read_head.Goals as goal
use Rattle.books.proofs.book.read_head.Goals.{then-not-few_parts-via-then-not-few_parts}
use Rattle.books.proofs.book.read_head.Goals.{then-not-few_parts-via-else-not-few_parts+then-not-all_differ}

pub returns-then-not-few_parts : goal.returns-then-not-few_parts
returns-then-not-few_parts c b r =
    let s = c.args.words.now in
    let n = c.in_ok-signs.field-0.now in
    let q : n ≡ signs_of s = search rules in
    let e : 1 + n - 1 ≡ signs_of s = omega (arith, q) in
    let d : 1 + 2 * n - (1 + n) ≡ signs_of s = omega (arith, q) in
    elim c.then-not-few_parts.branch [
      | then-not-few_parts-via-then-not-few_parts w ↦
          c.few_parts.ensures.fails w.if-not-few_parts.true (book_parts s b r _ (ap (λ (k : ℕ). take k (drop 1 s)) e))
      | then-not-few_parts-via-else-not-few_parts+then-not-all_differ w ↦
          w.all_differ.ensures.fails w.if-not-all_differ.true
          (book_ranks s b r _ (ap₂ (λ (k m : ℕ). take k (drop (1 + m) s)) d q))
    ]

pub returns-then-equations-gt64 : goal.returns-then-equations-gt64
returns-then-equations-gt64 c b r =
    let h = head_of c.args.words.now b r in
    let q : c.in_ok-signs.field-0.now ≡ signs_of c.args.words.now = search rules in
    let word : (k : ℕ) → get_or c.args.words.now (k + 2 * c.in_ok-signs.field-0.now) 0 ≡ get_or c.args.words.now (k + 2 * signs_of
    c.args.words.now) 0 =
    λ k. ap (λ (n : ℕ). get_or c.args.words.now (k + 2 * n) 0) q in
    elim c.then-equations-gt64.either [
      | inl p ↦ omega (arith, p, word 1, h.eqs, r.fine.few_eqs)
      | inr p ↦ omega (arith, p.1, word 2, h.rules, r.fine.few_rules)
    ]
