-- One of the equations leads one way or the other; or none does.
use Rattle.std.proofs.Common.{refl, rules, tests, arith, ◌∙◌}
use Rattle.std.proofs.lemmas.Iterator.{cases_from_any, YieldsList-from_range}
use Rattle.books.specs.Books.{sound_book_in}
use Rattle.store.specs.Stores.{term_in}
use Rattle.ways.proofs.Topping.{Leads, any_equated}
use Rattle.ways.proofs.walk.Walk.equated.Goals as goal

pub returns : goal.returns
returns c =
    let st = c.args.self.now.store.now in
    let t = term_in st c.args.p.0 in
    let u = term_in st c.args.q.0 in
    any_equated c.args.self.now.book.now c.args.self.now.store.now c.args.p c.args.q c.requires c.equations.result
    (c.equations.ensures ∙ (sound_book_in c.args.self.now.book.now).laid.equations) _ _ c.any.result
    (cases_from_any _ _ _ (Leads c.args.self.now.book.now t u) (λ i. Leads c.args.self.now.book.now t u i → ⊥) c.any.ensures.ran
    (YieldsList-from_range 0 c.equations.result c.equations.result refl (omega arith))
    (λ i f h. search (rules, tests)) (λ i f h. search (rules, tests)))
