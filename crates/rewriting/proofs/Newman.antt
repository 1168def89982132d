-- Newman's lemma: if no steps are endless and any two steps from one term come together, any two ways do.
use mathlib.Core.List.{List}
use Rattle.rewriting.specs.Terms.{Term}
use Rattle.rewriting.specs.Rules.{Eq, Step, Steps, stay, go, Meet, Ends, ends}
use Rattle.rewriting.proofs.Stepping.{trans}

module _ (rs : List Eq) (local : (t u v : Term) → Step rs t u → Step rs t v → Meet rs u v) where
  pub newman : {t u v : Term} → Ends rs t → Steps rs t u → Steps rs t v → Meet rs u v
  newman (ends f) stay h = (_, h, stay)
  newman (ends f) (go a as1) stay = (_, stay, go a as1)
  newman {t} {u} {v} (ends f) (go {u = a} s ss) (go {u = b} r rest) =
      let m : Meet rs a b = local t a b s r in
      let k : Meet rs u m.0 = newman (f a s) ss m.1 in
      let l : Meet rs k.0 v = newman (f b r) (trans m.2 k.2) rest in
      (l.0, trans k.1 l.1, l.2)
