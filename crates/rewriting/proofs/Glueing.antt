-- Parts glued together: their numbers, sizes, replacing, steps, and what stands in them.
use mathlib.Core.Path.{◌≡◌, refl, ap}
use mathlib.Core.List.{List}
use Prim.Native.Nat.{ℕ, ◌+◌, ◌≤◌}
use native.Mathlib.Omega.{arith}
use Rattle.rewriting.specs.Terms.{Term, letter, sign, Terms, none1, and1, put, puts, size, sizes, count, glue, AllOver, AnyLetter}
use Rattle.rewriting.specs.Rules.{Eq, Step, Steps1, in_first, in_rest, Parts, in_this, in_later}
use Rattle.rewriting.specs.Machine.{behind}

-- a part put behind the others
pub glue_behind : (bs : Terms) (v : Term) (ts : Terms) → glue (behind bs v) ts ≡ glue bs (and1 v ts)
glue_behind none1 v ts = refl
glue_behind (and1 b bs) v ts = ap (and1 b) (glue_behind bs v ts)

-- numbers of parts, sizes, and replacing
pub count_glue : (ts us : Terms) → count (glue ts us) ≡ count ts + count us
count_glue none1 us = omega arith
count_glue (and1 t ts) us = omega (arith, count_glue ts us)

pub sizes_glue : (ts us : Terms) → sizes (glue ts us) ≡ sizes ts + sizes us
sizes_glue none1 us = omega arith
sizes_glue (and1 t ts) us = omega (arith, sizes_glue ts us)

pub size_some : (t : Term) → 1 ≤ size t
size_some (letter x) = omega arith
size_some (sign f ts) = omega arith

pub count_sizes : (ts : Terms) → count ts ≤ sizes ts
count_sizes none1 = omega arith
count_sizes (and1 t ts) = omega (arith, size_some t, count_sizes ts)

pub puts_glue : (s : ℕ → Term) (ts us : Terms) → puts s (glue ts us) ≡ glue (puts s ts) (puts s us)
puts_glue s none1 us = refl
puts_glue s (and1 t ts) us = ap (and1 (put s t)) (puts_glue s ts us)

-- of as many parts each, they are the same only if both pieces are
pub glue_apart : (ts us vs ws : Terms) → count ts ≡ count us → glue ts vs ≡ glue us ws → (ts ≡ us) × (vs ≡ ws)
glue_apart none1 none1 vs ws n e = (refl, e)
glue_apart none1 (and1 u us) vs ws n e = absurd (omega arith)
glue_apart (and1 t ts) none1 vs ws n e = absurd (omega arith)
glue_apart (and1 t ts) (and1 u us) vs ws n e =
    let d : glue ts vs ≡ glue us ws = cc in
    let (p, q) = glue_apart ts us vs ws (omega arith) d in
    let h : t ≡ u = cc in (cc, q)

-- a step in one part
pub glue_step : {rs : List Eq} {t u : Term} (bs ts : Terms) → Step rs t u → Steps1 rs (glue bs (and1 t ts)) (glue bs (and1 u ts))
glue_step none1 ts h = in_first h
glue_step (and1 b bs) ts h = in_rest (glue_step bs ts h)

-- what stands in a piece stands in the whole
pub glue_before : {v : Term} {bs : Terms} (ts : Terms) → Parts v bs → Parts v (glue bs ts)
glue_before ts (in_this p) = in_this p
glue_before ts (in_later p) = in_later (glue_before ts p)

pub glue_after : {v : Term} (bs : Terms) {ts : Terms} → Parts v ts → Parts v (glue bs ts)
glue_after none1 p = p
glue_after (and1 b bs) p = in_later (glue_after bs p)

pub glue_fits : (ps : List ℕ) (bs ts : Terms) → AllOver AnyLetter ps (glue bs ts) → AllOver AnyLetter ps ts
glue_fits ps none1 ts h = h
glue_fits ps (and1 b bs) ts h = glue_fits ps bs ts h.1
