-- Each call adds its words.
use Rattle.std.proofs.Common.{ℕ, [], ◌∷◌, Ok, vec_items, refl, rules}
use Rattle.std.proofs.lemmas.Iterator.{YieldsList-from_map, YieldsList-from_slice}
use Rattle.std.proofs.lemmas.Iterator.Adapters.{items_from_extend}
use Rattle.std.proofs.lemmas.Slice.{pushed}
use Rattle.notation.proofs.Heads.{summed}
use Rattle.notation.specs.Books.{parts_in, ranks_in}
use Rattle.notation.specs.declared.signature.Sign.{Sign}
use Rattle.notation.proofs.book.book_row.Goals as goal

pub returns : goal.returns
returns c =
    let x = c.args.sides.now in
    let signs = c.args.signs.now in
    let parts = items_from_extend {E = ℕ} (Ok c.in_ok-extend.field-0) c.in_ok-extend.ensures.ran
    (YieldsList-from_map _ (λ (s : Sign). s.parts) (YieldsList-from_slice signs (cc)) c.map.ensures.closure (λ y r q k. search rules)) in
    let ranks = items_from_extend {E = ℕ} (Ok c.in_ok-extend-2.field-0) c.in_ok-extend-2.ensures.ran
    (YieldsList-from_map _ (λ (s : Sign). s.rank) (YieldsList-from_slice signs (cc)) c.map-2.ensures.closure (λ y r q k. search rules)) in
    summed (vec_items c.push.new.self) (vec_items c.extend.new.self) (vec_items c.extend-2.new.self)
    (vec_items c.push-2.new.self) (vec_items c.push-3.new.self) (vec_items c.extend_from_slice.new.self)
    (parts_in signs) (ranks_in signs) (vec_items x.row) c.as_slice.result.now
    x.signs x.equations x.rules
    (pushed (x.signs ∷ []) c.in_ok-words.ensures.items c.in_ok-push.was c.push.ensures.items)
    parts.0 ranks.0
    (pushed (x.equations ∷ []) refl c.in_ok-push-2.was c.push-2.ensures.items)
    (pushed (x.rules ∷ []) refl c.in_ok-push-3.was c.push-3.ensures.items)
    (pushed c.as_slice.result.now refl c.in_ok-extend_from_slice.was c.extend_from_slice.ensures.items)
    c.as_slice.ensures.value
