-- What was asked for: steps have led from it to what is worked at, at each depth.
use mathlib.Core.Path.{◌≡◌, sym, subst}
use mathlib.Core.Logic.{◌⊎◌, inl, inr}
use mathlib.Core.List.{List, [], ◌∷◌}
use mathlib.Core.Option.{Option, some, none}
use Prim.Native.Nat.{suc}
use native.Mathlib.Omega.{arith}
use lib.ListN.{length}
use Rattle.rewriting.specs.Terms.{Term, sign, and1}
use Rattle.rewriting.specs.Rules.{Eq, Steps}
use Rattle.rewriting.specs.Machine.{Frame, frame, around, Requests, Led, Asked, Recalls}
use Rattle.rewriting.specs.MachineTheorems.{MachineRemembers}
use Rattle.rewriting.proofs.Stepping.{trans}
use Rattle.rewriting.proofs.Framing.{around_behind, around_steps}

answers : (rs : List Eq) (q : Requests) (ks : List Frame) (t : Term) → Asked rs q ks t → Led rs (q (length ks)) t
answers rs q [] t a = a
answers rs q (k ∷ ks) t a = a.0

led_on : {rs : List Eq} {t u : Term} (o : Option Term) → Steps rs t u → Led rs o t → Led rs o u
led_on none h l = tt
led_on (some q) h l = trans l h

pub asked_steps : (rs : List Eq) (q : Requests) (ks : List Frame) (t u : Term) → Steps rs t u → Asked rs q ks t → Asked rs q ks u
asked_steps rs q [] t u h a = led_on (q 0) h a
asked_steps rs q (k ∷ ks) t u h a =
    (led_on (q (suc (length ks))) h a.0, asked_steps rs q ks (around k t) (around k u) (around_steps k h) a.1)

led_less : (rs : List Eq) (o m : Option Term) (t : Term) → (o ≡ m) ⊎ (o ≡ none) → Led rs m t → Led rs o t
led_less rs o m t (inl e) l = subst (λ (n : Option Term). Led rs n t) (sym e) l
led_less rs o m t (inr e) l = subst (λ (n : Option Term). Led rs n t) (sym e) tt

pub asked_less : (rs : List Eq) (p q : Requests) (ks : List Frame) (t : Term) → Recalls (length ks) p q → Asked rs q ks t → Asked rs p ks t
asked_less rs p q [] t r a = led_less rs (p 0) (q 0) t (r 0 (omega arith)) a
asked_less rs p q (k ∷ ks) t r a = (
  led_less rs (p (suc (length ks))) (q (suc (length ks))) t (r (suc (length ks)) (omega arith)) a.0,
  asked_less rs p q ks (around k t) (λ d l. r d (omega arith)) a.1,
)

pub machine_remembers_lem : MachineRemembers
machine_remembers_lem = record {
  answers = answers;
  forgets = asked_less;
  steps = asked_steps;
  goes_in = λ rs p q ks f t ts r l a. (l, asked_less rs p q ks (sign f (and1 t ts)) r a);
  goes_on = λ rs p q ks f bs v t ts r l a. (
    l,
    subst (Asked rs p ks) (sym (around_behind f bs v t ts))
        (asked_less rs p q ks (around (frame f bs (and1 t ts)) v) r a.1),
  );
  goes_out = λ rs q ks f bs v a. a.1;
}
