-- The head is a sign's.
use Rattle.std.proofs.Common.{◌≡◌, ℕ, ◌-◌, ap, ◌∙◌, arith}
use Rattle.rewriting.specs.Terms.{sign}
use Rattle.store.specs.Slots.{kind_of, arity_of}
use Rattle.store.specs.Slots.{parts_by}
use Rattle.store.specs.Stacks.{root_in, in_order}
use Rattle.store.specs.Stores.{term_in}
use Rattle.store.proofs.Viewing.{node_sign}
use Rattle.store.proofs.Placing.{made_is}
use Rattle.store.proofs.types.Store.make_sign_by.Goals as goal

pub returns : goal.returns
returns c =
    let h = c.sign_head in let a = c.args.self.now in let q = c.args.roots.now in let n = c.args.n in
    let e : arity_of (kind_of h.result) ≡ n = omega (arith, h.ensures.tag) in
    made_is a q _ _ _ c.make.new.self c.make.new.roots c.make.result
    (node_sign _ (kind_of h.result) _ c.args.f n h.ensures.tag h.ensures.symbol
    ∙ ap (λ (m : ℕ). sign c.args.f (parts_by (λ j. term_in a j) (λ k. root_in q (in_order c.args.order (q.top - n) m k)) 0 n)) e)
    c.make.ensures
