-- Terms in frames: steps, parts, sizes and the signature.
use mathlib.Core.Path.{◌≡◌, ◌∙◌, ap}
use mathlib.Core.List.{List, [], ◌∷◌}
use mathlib.Core.Option.{some}
use Prim.Native.Nat.{ℕ, ◌+◌, ◌*◌, ◌<◌, ◌≤◌}
use native.Mathlib.Omega.{arith}
use lib.ListN.{length}
use Rattle.rewriting.specs.Terms.{nth, Term, sign, Terms, and1, size, count, glue, Fits}
use Rattle.rewriting.specs.Rules.{Eq, Step, below, Steps, stay, go}
use Rattle.rewriting.specs.Rules.{Part, in_part, in_this}
use Rattle.rewriting.specs.Machine.{Frame, frame, behind, around, plug, places, FramesFit}
use Rattle.rewriting.proofs.Glueing.{glue_behind, count_glue, sizes_glue, glue_step, glue_after, glue_fits}

pub around_behind : (f : ℕ) (bs : Terms) (v t : Term) (ts : Terms) →
    around (frame f (behind bs v) ts) t ≡ around (frame f bs (and1 t ts)) v
around_behind f bs v t ts = ap (sign f) (glue_behind bs v (and1 t ts))

pub around_size : (k : Frame) (t : Term) → size t < size (around k t)
around_size (frame f bs ts) t = omega (arith, sizes_glue bs (and1 t ts))

-- steps
pub around_step : {rs : List Eq} {t u : Term} (k : Frame) → Step rs t u → Step rs (around k t) (around k u)
around_step (frame f bs ts) h = below (glue_step bs ts h)

pub around_steps : {rs : List Eq} {t u : Term} (k : Frame) → Steps rs t u → Steps rs (around k t) (around k u)
around_steps k stay = stay
around_steps k (go h hs) = go (around_step k h) (around_steps k hs)

pub plug_step : {rs : List Eq} {t u : Term} (ks : List Frame) → Step rs t u → Step rs (plug ks t) (plug ks u)
plug_step [] h = h
plug_step (k ∷ ks) h = plug_step ks (around_step k h)

pub plug_steps : {rs : List Eq} {t u : Term} (ks : List Frame) → Steps rs t u → Steps rs (plug ks t) (plug ks u)
plug_steps [] h = h
plug_steps (k ∷ ks) h = plug_steps ks (around_steps k h)

-- parts
part_around : {v t : Term} (k : Frame) → Part v t → Part v (around k t)
part_around (frame f bs ts) p = in_part (glue_after bs (in_this p))

pub part_plug : {v t : Term} (ks : List Frame) → Part v t → Part v (plug ks t)
part_plug [] p = p
part_plug (k ∷ ks) p = part_plug ks (part_around k p)

-- over a signature each frame lacks one part
module _ (ps : List ℕ) where
  pub plug_fits : (ks : List Frame) (t : Term) → Fits ps (plug ks t) → FramesFit ps ks × Fits ps t
  plug_fits [] t h = (tt, h)
  plug_fits (frame f bs ts ∷ ks) t h =
      let (w, k) = plug_fits ks (around (frame f bs ts) t) h in
      let e : count (glue bs (and1 t ts)) ≡ count bs + 1 + count ts = omega (arith, count_glue bs (and1 t ts)) in
      ((k.0 ∙ ap some e, w), (glue_fits ps bs (and1 t ts) k.1).0)

  pub few_places : ((f n : ℕ) → nth ps f ≡ some n → n ≤ 4) → (ks : List Frame) → FramesFit ps ks → places ks ≤ 3 * length ks
  few_places few [] h = omega arith
  few_places few (frame f bs ts ∷ ks) h = omega (arith, few f (count bs + 1 + count ts) h.0, few_places few ks h.1)
