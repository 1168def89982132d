-- A step inside a term with its letters replaced: in what is put for a letter, or at a part that isn't a letter.
use mathlib.Core.Path.{◌≡◌, refl, ap, subst}
use mathlib.Core.List.{List}
use Prim.Native.Nat.{ℕ}
use native.Mathlib.Omega.{arith}
use Rattle.rewriting.specs.Terms.{Term, letter, sign, Terms, none1, and1, put, puts}
use Rattle.rewriting.specs.Rules.{Eq, Step, Steps1, in_first, in_rest, Steps, stay, go}
use Rattle.rewriting.specs.Rules.{Part, itself, in_part, Parts, in_this, in_later}
use Rattle.rewriting.specs.Overlaps.{fill, fills}
use Rattle.rewriting.proofs.Replacing.{change, change_has, change_here}
use Rattle.rewriting.proofs.Stepping.{StepsIn, steps_below, steps_both, steps_under, steps_unders}
use Rattle.rewriting.proofs.Stepping.{Top, FromSign, by_top, by_part, from_sign}

-- from put s m to v: v comes to m with what is stepped to put for all letters; or a rule is used at the part p
pub data Split (rs : List Eq) (s : ℕ → Term) (m v : Term) : Type 0 where
  in_letter : (r : ℕ → Term) → ((x : ℕ) → Steps rs (s x) (r x)) → Steps rs v (put r m) → Split rs s m v
  at_part : {f : ℕ} {vs : Terms} {w : Term} (p : Part (sign f vs) m) →
      Top rs (put s (sign f vs)) w → v ≡ fill p s w → Split rs s m v

data Splits (rs : List Eq) (s : ℕ → Term) (ms us : Terms) : Type 0 where
  in_letters : (r : ℕ → Term) → ((x : ℕ) → Steps rs (s x) (r x)) → StepsIn rs us (puts r ms) → Splits rs s ms us
  at_parts : {f : ℕ} {vs : Terms} {w : Term} (p : Parts (sign f vs) ms) →
      Top rs (put s (sign f vs)) w → us ≡ fills p s w → Splits rs s ms us

split_sign : {rs : List Eq} {s : ℕ → Term} {ms us : Terms} (f : ℕ) → Splits rs s ms us → Split rs s (sign f ms) (sign f us)
split_sign f (in_letters r h k) = in_letter r h (steps_below f k)
split_sign f (at_parts p a e) = at_part (in_part p) a (ap (sign f) e)

split_first : {rs : List Eq} (s : ℕ → Term) {m u : Term} (ms us : Terms) → us ≡ puts s ms →
    Split rs s m u → Splits rs s (and1 m ms) (and1 u us)
split_first s ms us e (in_letter r h k) = in_letters r h (rw e (steps_both k (steps_unders s r h ms)))
split_first s ms us e (at_part p a d) = at_parts (in_this p) a (cc)

split_rest : {rs : List Eq} (s : ℕ → Term) (m u : Term) {ms us : Terms} → u ≡ put s m →
    Splits rs s ms us → Splits rs s (and1 m ms) (and1 u us)
split_rest s m u e (in_letters r h k) = in_letters r h (rw e (steps_both (steps_under s r h m) k))
split_rest s m u e (at_parts p a d) = at_parts (in_later p) a (cc)

split_letter : {rs : List Eq} (s : ℕ → Term) (x : ℕ) (v : Term) → Step rs (s x) v → Split rs s (letter x) v
split_letter {rs} s x v h = in_letter (change s x v) each (rw (change_here s x v) stay)
  where
    each : (y : ℕ) → Steps rs (s y) (change s x v y)
    each y = change_has (Steps rs (s y)) s x v y (λ e. go (subst (λ (z : ℕ). Step rs (s z) v) e h) stay) (λ n. stay)

by_sign : {rs : List Eq} {s : ℕ → Term} {f : ℕ} {ms : Terms} {v : Term} → FromSign rs f (puts s ms) v →
    ((us : Terms) → Steps1 rs (puts s ms) us → Splits rs s ms us) → Split rs s (sign f ms) v
by_sign (by_top a) k = at_part itself a refl
by_sign {f = f} (by_part {us = us} h) k = split_sign f (k us h)

by_and : {rs : List Eq} (s : ℕ → Term) (m : Term) (ms : Terms) {ws us : Terms} → Steps1 rs ws us → ws ≡ and1 (put s m) (puts s ms) →
    ((w u : Term) → Step rs w u → w ≡ put s m → Split rs s m u) →
    ((vs us : Terms) → Steps1 rs vs us → vs ≡ puts s ms → Splits rs s ms us) → Splits rs s (and1 m ms) us
by_and s m ms (in_first {t = t} {u = u} {ts = ts} h) e first rest = split_first s ms ts (cc) (first t u h (cc))
by_and s m ms (in_rest {t = t} {ts = ts} {us = us} h) e first rest = split_rest s m t (cc) (rest ts us h (cc))

none_steps : {rs : List Eq} {ws us : Terms} → Steps1 rs ws us → ws ≡ none1 → ⊥
none_steps (in_first h) e = let z : ◌≡◌ {A = ℕ} 0 1 = cc in omega arith
none_steps (in_rest h) e = let z : ◌≡◌ {A = ℕ} 0 1 = cc in omega arith

mutual
  pub split : {rs : List Eq} (m : Term) (s : ℕ → Term) (w v : Term) → Step rs w v → w ≡ put s m → Split rs s m v
  split {rs} (letter x) s w v h e = split_letter s x v (subst (λ (z : Term). Step rs z v) e h)
  split (sign f ms) s w v h e = by_sign (from_sign h f (puts s ms) e) (λ us k. splits ms s (puts s ms) us k refl)

  splits : {rs : List Eq} (ms : Terms) (s : ℕ → Term) (ws us : Terms) → Steps1 rs ws us → ws ≡ puts s ms → Splits rs s ms us
  splits none1 s ws us h e = absurd (none_steps h e)
  splits (and1 m ms) s ws us h e = by_and s m ms h e (split m s) (splits ms s)
