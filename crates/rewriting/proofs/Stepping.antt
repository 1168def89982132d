-- Steps: in places, along with replacing, and what a step is of.
use mathlib.Core.Path.{◌≡◌, refl, sym, ap, subst, subst₂}
use mathlib.Core.List.{List}
use mathlib.Core.Option.{some}
use Prim.Native.Nat.{ℕ, ◌+◌}
use native.Mathlib.Omega.{arith}
use Rattle.rewriting.specs.Terms.{nth, Term, letter, sign, Terms, none1, and1, put, puts, count, In}
use Rattle.rewriting.specs.Rules.{Eq, Step, at_top, below, Steps1, in_first, in_rest, Steps, stay, go, Meet, Done, renamed}
use Rattle.rewriting.specs.Rules.{Part, itself, in_part, Parts, in_this, in_later}
use Rattle.rewriting.specs.Overlaps.{fill, fills}
use Rattle.rewriting.proofs.Choosing.{Each}
use Rattle.rewriting.proofs.Replacing.{put_put}

pub trans : {rs : List Eq} {t u v : Term} → Steps rs t u → Steps rs u v → Steps rs t v
trans stay k = k
trans (go s h) k = go s (trans h k)

pub done_stays : {rs : List Eq} {t u : Term} → Done rs t → Steps rs t u → t ≡ u
done_stays d stay = refl
done_stays d (go {u = u} h hs) = absurd (d u h)

-- t comes to a term at which nothing can be done
abbrev pub Comes : List Eq → Term → Type 0
Comes rs t = (n : Term) × Steps rs t n × Done rs n

-- along with replacing
mutual
  pub step_put : {rs : List Eq} {t u : Term} → (k : ℕ → Term) → Step rs t u → Step rs (put k t) (put k u)
  step_put k (at_top i r s e) = rw (put_put k s r.left, put_put k s r.right) (at_top i r (λ x. put k (s x)) e)
  step_put k (below h) = below (steps1_put k h)

  steps1_put : {rs : List Eq} {ts us : Terms} → (k : ℕ → Term) → Steps1 rs ts us → Steps1 rs (puts k ts) (puts k us)
  steps1_put k (in_first h) = in_first (step_put k h)
  steps1_put k (in_rest h) = in_rest (steps1_put k h)

pub steps_put : {rs : List Eq} {t u : Term} → (k : ℕ → Term) → Steps rs t u → Steps rs (put k t) (put k u)
steps_put k stay = stay
steps_put k (go h hs) = go (step_put k h) (steps_put k hs)

pub meet_put : {rs : List Eq} {t u : Term} → (k : ℕ → Term) → Meet rs t u → Meet rs (put k t) (put k u)
meet_put k m = (put k m.0, steps_put k m.1, steps_put k m.2)

pub meet_swap : {rs : List Eq} {t u : Term} → Meet rs t u → Meet rs u t
meet_swap m = (m.0, m.2, m.1)

-- any number of steps in a list of terms
pub data StepsIn (rs : List Eq) : Terms → Terms → Type 0 where
  stay_in : {ts : Terms} → StepsIn rs ts ts
  go_in : {ts us vs : Terms} → Steps1 rs ts us → StepsIn rs us vs → StepsIn rs ts vs

trans_in : {rs : List Eq} {ts us vs : Terms} → StepsIn rs ts us → StepsIn rs us vs → StepsIn rs ts vs
trans_in stay_in k = k
trans_in (go_in s h) k = go_in s (trans_in h k)

pub steps_below : {rs : List Eq} {ts us : Terms} → (f : ℕ) → StepsIn rs ts us → Steps rs (sign f ts) (sign f us)
steps_below f stay_in = stay
steps_below f (go_in h hs) = go (below h) (steps_below f hs)

pub steps_first : {rs : List Eq} {t u : Term} → (ts : Terms) → Steps rs t u → StepsIn rs (and1 t ts) (and1 u ts)
steps_first ts stay = stay_in
steps_first ts (go h hs) = go_in (in_first h) (steps_first ts hs)

pub steps_rest : {rs : List Eq} {ts us : Terms} → (t : Term) → StepsIn rs ts us → StepsIn rs (and1 t ts) (and1 t us)
steps_rest t stay_in = stay_in
steps_rest t (go_in h hs) = go_in (in_rest h) (steps_rest t hs)

pub steps_both : {rs : List Eq} {t u : Term} {ts us : Terms} →
    Steps rs t u → StepsIn rs ts us → StepsIn rs (and1 t ts) (and1 u us)
steps_both {u = u} {ts = ts} h hs = trans_in (steps_first ts h) (steps_rest u hs)

-- lists of terms that come together
abbrev pub Meets : List Eq → Terms → Terms → Type 0
Meets rs ts us = (vs : Terms) × StepsIn rs ts vs × StepsIn rs us vs

pub meet_below : {rs : List Eq} {ts us : Terms} → (f : ℕ) → Meets rs ts us → Meet rs (sign f ts) (sign f us)
meet_below f m = (sign f m.0, steps_below f m.1, steps_below f m.2)

pub meet_both : {rs : List Eq} {t u : Term} {ts us : Terms} → Meet rs t u → Meets rs ts us → Meets rs (and1 t ts) (and1 u us)
meet_both m ms = (and1 m.0 ms.0, steps_both m.1 ms.1, steps_both m.2 ms.2)

-- in what is put for the letters
mutual
  pub steps_under : {rs : List Eq} (s r : ℕ → Term) → ((x : ℕ) → Steps rs (s x) (r x)) → (t : Term) → Steps rs (put s t) (put r t)
  steps_under s r h (letter x) = h x
  steps_under s r h (sign f ts) = steps_below f (steps_unders s r h ts)

  pub steps_unders : {rs : List Eq} (s r : ℕ → Term) → ((x : ℕ) → Steps rs (s x) (r x)) →
      (ts : Terms) → StepsIn rs (puts s ts) (puts r ts)
  steps_unders s r h none1 = stay_in
  steps_unders s r h (and1 t ts) = steps_both (steps_under s r h t) (steps_unders s r h ts)

-- at a part
mutual
  pub fill_step : {rs : List Eq} {n t : Term} (p : Part n t) (s : ℕ → Term) (w : Term) →
      Step rs (put s n) w → Step rs (put s t) (fill p s w)
  fill_step itself s w h = h
  fill_step (in_part p) s w h = below (fills_step p s w h)

  fills_step : {rs : List Eq} {n : Term} {ts : Terms} (p : Parts n ts) (s : ℕ → Term) (w : Term) →
      Step rs (put s n) w → Steps1 rs (puts s ts) (fills p s w)
  fills_step (in_this p) s w h = in_first (fill_step p s w h)
  fills_step (in_later p) s w h = in_rest (fills_step p s w h)

-- by a rule whose letters are renamed
pub renamed_step : {rs : List Eq} (s : ℕ → Term) (j : ℕ) (q : Eq) → nth rs j ≡ some q →
    Step rs (put s (renamed q.left)) (put s (renamed q.right))
renamed_step {rs} s j q e = rw (put_put s (λ x. letter (x + 16)) q.left, put_put s (λ x. letter (x + 16)) q.right)
    (at_top j q (λ x. s (x + 16)) e)

-- a rule used at the top, its two ends told by equations
pub record Top (rs : List Eq) (t u : Term) : Type 0 where
  pub i : ℕ
  pub r : Eq
  pub s : ℕ → Term
  pub has : nth rs i ≡ some r
  pub from : t ≡ put s r.left
  pub to : u ≡ put s r.right

pub top_of : {rs : List Eq} (i : ℕ) (r : Eq) (s : ℕ → Term) → nth rs i ≡ some r → Top rs (put s r.left) (put s r.right)
top_of i r s e = record { i = i; r = r; s = s; has = e; from = refl; to = refl }

pub top_step : {rs : List Eq} {t u : Term} → Top rs t u → Step rs t u
top_step {rs} a = subst₂ (Step rs) (sym a.from) (sym a.to) (at_top a.i a.r a.s a.has)

-- a step from a sign with parts: at the top or in the parts
pub data FromSign (rs : List Eq) (f : ℕ) (ts : Terms) : Term → Type 0 where
  by_top : {v : Term} → Top rs (sign f ts) v → FromSign rs f ts v
  by_part : {us : Terms} → Steps1 rs ts us → FromSign rs f ts (sign f us)

pub from_sign : {rs : List Eq} {w v : Term} → Step rs w v → (f : ℕ) (ts : Terms) → w ≡ sign f ts → FromSign rs f ts v
from_sign {rs} (at_top i r s e) f ts h = by_top (subst (λ (w : Term). Top rs w (put s r.right)) h (top_of i r s e))
from_sign {rs} (below {f = g} {ts = as1} {us = us} k) f ts h =
    let e : as1 ≡ ts = cc in
    let d : f ≡ g = cc in
    subst (λ (n : ℕ). FromSign rs f ts (sign n us)) d (by_part (subst (λ (vs : Terms). Steps1 rs vs us) e k))

-- a step from a letter is at the top
pub from_letter : {rs : List Eq} {w v : Term} → Step rs w v → (x : ℕ) → w ≡ letter x → Top rs w v
from_letter (at_top i r s e) x h = top_of i r s e
from_letter (below k) x h = let z : ◌≡◌ {A = ℕ} 0 1 = cc in absurd (omega arith)

-- no rule brings in letters
abbrev pub NoNewLetters : List Eq → Type 0
NoNewLetters rs = Each (λ (r : Eq). (x : ℕ) → In x r.right → In x r.left) rs

pub steps1_count : {rs : List Eq} {ts us : Terms} → Steps1 rs ts us → count ts ≡ count us
steps1_count (in_first h) = refl
steps1_count (in_rest h) = ap (λ n. 1 + n) (steps1_count h)
