-- Each turn looks at one part.
use Rattle.std.proofs.Common.{ℕ, ◌+◌, ◌-◌, true, false, List, length, sym, refl, ap, ◌∙◌, subst, arith}
use borrow.Author.Tests.{clash}
use Rattle.rewriting.specs.Terms.{count}
use Rattle.store.specs.declared.types.Store.{Store}
use Rattle.store.specs.Roots.{root_at, HasRoots}
use Rattle.store.specs.Stores.{term_in, held}
use Rattle.store.specs.Transfers.{inner}
use Rattle.books.specs.Books.{told}
use Rattle.ways.specs.Steps.{Equated}
use Rattle.ways.proofs.Stepping.{walking_start, walk_can, walk_found, walk_cells, walk_less, walking_more, walk_none}
use Rattle.ways.proofs.Stepping.{only_same, only_then, comparable_on, equated_on, expanded_on}
use Rattle.ways.proofs.walk.Walk.leads_to_itself.Goals as goal

pub loop-self-init : goal.loop-self-init
loop-self-init c =
    (only_same c.args.self.now, walking_start c.args.self.now.book.now c.args.self.now.store.now c.args.self.now.roots.now c.requires)

pub equated-requires : goal.equated-requires
equated-requires c =
    let w = c.args.self.now in
    comparable_on w c.loop-self.self c.loop-self.invariant.0 c.place-p.result c.place-p.result
    (walk_can w.book.now w.store.now (w.roots.now.top - 1) w.roots.now c.loop-self.self.roots.now
    c.loop-self.invariant.1 c.loop-self-test.true c.place-p.result c.place-p.ensures)

pub returns-then-equated-clause-walked : goal.returns-then-equated-clause-walked
returns-then-equated-clause-walked c =
    let w = c.args.self.now in
    let cut = c.truncate.ensures in
    record {
      result = record {
        holds = λ z. walk_found w.book.now w.store.now (w.roots.now.top - 1) w.roots.now
            c.loop-self.self.roots.now c.loop-self.invariant.1 c.loop-self-test.true
            (subst (λ (j : ℕ). Equated (told w.book.now).eqs (term_in w.store.now j) (term_in w.store.now j)) c.place-p.ensures
            ((equated_on w c.loop-self.self c.loop-self.invariant.0 c.place-p.result c.place-p.result true
            c.if-equated.ensures).holds refl));
        fails = λ z. absurd (clash (sym z));
      };
      top = cut.top;
      below = record {
        long = ap length cut.cells ∙ c.loop-self.invariant.1.below.long;
        rest = λ j l. ap (λ (ws : List ℕ). root_at ws j) cut.cells ∙ c.loop-self.invariant.1.below.rest j l;
      };
    }

pub expand-requires-clause-has_roots : goal.expand-requires-clause-has_roots
expand-requires-clause-has_roots c =
    let w = c.args.self.now in
    let r = c.loop-self.self.roots.now in
    subst (λ (st : Store). HasRoots r.cells.now (r.top - 1 + count (inner (held st r (r.top - 1))))) (sym c.loop-self.invariant.0.store)
    (walk_cells w.book.now w.store.now (w.roots.now.top - 1) w.roots.now r c.loop-self.invariant.1 c.loop-self-test.true c.requires.cells)

pub loop-self-smaller : goal.loop-self-smaller
loop-self-smaller c =
    let w = c.args.self.now in
    walk_less w.book.now w.store.now (w.roots.now.top - 1) w.roots.now c.loop-self.self.roots.now
    c.loop-self.invariant.1 c.loop-self-test.true c.expand.new.self.roots.now
    (expanded_on w c.loop-self.self c.loop-self.invariant.0 c.loop-self.self.roots.now c.expand.new.self.roots.now
    c.expand.ensures.expanded)

pub loop-self-preserved : goal.loop-self-preserved
loop-self-preserved c =
    let w = c.args.self.now in
    let o = c.expand.ensures.only in (
      only_then w c.loop-self.self c.loop-self.invariant.0 c.expand.new.self
          (record { book = o.book; ways = o.ways; store = o.store; store_lent = o.store_lent; roots_lent = o.roots_lent }),
      walking_more w.book.now w.store.now (w.roots.now.top - 1) w.roots.now c.loop-self.self.roots.now
          c.loop-self.invariant.1 c.loop-self-test.true c.expand.new.self.roots.now
          (expanded_on w c.loop-self.self c.loop-self.invariant.0 c.loop-self.self.roots.now c.expand.new.self.roots.now
          c.expand.ensures.expanded)
          (subst (λ (j : ℕ). Equated (told w.book.now).eqs (term_in w.store.now j) (term_in w.store.now j) → ⊥) c.place-p.ensures
          ((equated_on w c.loop-self.self c.loop-self.invariant.0 c.place-p.result c.place-p.result false
          c.if-equated.ensures).fails refl)),
    )

pub returns-clause-walked : goal.returns-clause-walked
returns-clause-walked c =
    let w = c.args.self.now in
    record {
      result = record {
        holds = λ z. absurd (clash z);
        fails = λ z. walk_none w.book.now w.store.now (w.roots.now.top - 1) w.roots.now
            c.loop-self.self.roots.now c.loop-self.invariant.1 c.loop-self-test.false;
      };
      top = omega (arith, c.loop-self.invariant.1.above);
      below = c.loop-self.invariant.1.below;
    }
