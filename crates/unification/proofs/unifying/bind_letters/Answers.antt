-- Each letter's place has a class, and the closure leaves what it reads as it was.
use Rattle.std.proofs.Common.{◌≡◌, ◌<◌, None, Some, is_some, true, rules, sym, ap, ◌∙◌, subst, arith}
use Rattle.std.proofs.iter.Serving.{same}
use Rattle.store.specs.declared.types.Place.{Place}
use Rattle.engine.specs.Matching.{bound}
use Rattle.unification.specs.Classes.{label}
use Rattle.unification.specs.Images.{image}
use Rattle.unification.proofs.Built.{same_place}
use Rattle.unification.proofs.Lettering.{call_at}
use Rattle.unification.proofs.unifying.bind_letters.Goals as goal

pub from_fn-requires : goal.from_fn-requires
from_fn-requires c = (
  omega arith,
  record {
    at = λ xs t q x u y f s.
        let e = sym (same _ (λ k y r d. search rules) xs _ q f) in
        let l : x < 32 = omega (arith, s.0) in
        let h = c.requires x l in
        let i : is_some (bound q.2.now x) ≡ true = subst (λ z. is_some (bound z.2.now x) ≡ true) e (ap is_some h.1) in
        let j : (p : Place) → bound q.2.now x ≡ Some p → (p.0 < 96) × (label q.1.now p.0 < 96) =
        subst (λ z. (p : Place) → bound z.2.now x ≡ Some p → (p.0 < 96) × (label z.1.now p.0 < 96)) e
        (λ p d. subst (λ (p : Place). (p.0 < 96) × (label c.args.classes.now p.0 < 96)) (same_place (sym h.1 ∙ d)) (h.2, h.3)) in
        search (rules, l, i, j);
  },
)

pub returns : goal.returns
returns c = record {
  long = c.from_fn.ensures.items.long;
  is = λ x p l e.
      let h = call_at _ _ (λ k y r d. search rules) _ 0 32 c.from_fn.ensures.items.each x (omega arith) l in
      let i : h.0 ≡ image c.args.images.now (label c.args.classes.now p.0) = search (rules, h, e) in h.2.1 None ∙ i;
}
