-- The path order is kept by replacing letters and in places, so steps of rules that go down go down.
use mathlib.Core.Path.{◌≡◌, refl, ap}
use mathlib.Core.List.{List}
use Prim.Native.Nat.{ℕ}
use Rattle.rewriting.specs.Terms.{Term, letter, sign, Terms, none1, and1, put, puts, In, part, Ins, here, there}
use Rattle.rewriting.specs.Rules.{Eq, Step, at_top, below, Steps1, in_first, in_rest, Part, itself, in_part, Parts, in_this, in_later}
use Rattle.rewriting.specs.Order.{Rank, Greater, by_part, by_sign, by_order, SomeAtLeast, this_is, this_more, later, AllDown}
use Rattle.rewriting.specs.Order.{AllLess, none_there, this_less, FirstGreater, here as here_greater, further}
use Rattle.rewriting.specs.Overlaps.{fill, fills}
use Rattle.rewriting.specs.Theorems.{OrderKept}
use Rattle.rewriting.proofs.Replacing.{put_letter, puts_letter}
use Rattle.rewriting.proofs.Stepping.{Top, top_of}

module _ (rk : Rank) where
  mutual
    pub greater_put : (s : ℕ → Term) {t u : Term} → Greater rk t u → Greater rk (put s t) (put s u)
    greater_put s (by_part h) = by_part (some_put s h)
    greater_put s (by_sign l h) = by_sign l (less_put s h)
    greater_put s (by_order o h) = by_order (first_put s o) (less_put s h)

    some_put : (s : ℕ → Term) {ts : Terms} {u : Term} → SomeAtLeast rk ts u → SomeAtLeast rk (puts s ts) (put s u)
    some_put s this_is = this_is
    some_put s (this_more h) = this_more (greater_put s h)
    some_put s (later h) = later (some_put s h)

    less_put : (s : ℕ → Term) {t : Term} {us : Terms} → AllLess rk t us → AllLess rk (put s t) (puts s us)
    less_put s none_there = none_there
    less_put s (this_less h hs) = this_less (greater_put s h) (less_put s hs)

    first_put : (s : ℕ → Term) {ts us : Terms} → FirstGreater rk ts us → FirstGreater rk (puts s ts) (puts s us)
    first_put s (here_greater h) = here_greater (greater_put s h)
    first_put s (further h) = further (first_put s h)

  -- the letters of the lesser side are letters of the greater
  mutual
    pub greater_letters : {t u : Term} → Greater rk t u → (x : ℕ) → In x u → In x t
    greater_letters (by_part h) x i = part (some_letters h x i)
    greater_letters (by_sign l h) x (part i) = less_letters h x i
    greater_letters (by_order o h) x (part i) = less_letters h x i

    some_letters : {ts : Terms} {u : Term} → SomeAtLeast rk ts u → (x : ℕ) → In x u → Ins x ts
    some_letters this_is x i = here i
    some_letters (this_more h) x i = here (greater_letters h x i)
    some_letters (later h) x i = there (some_letters h x i)

    less_letters : {t : Term} {us : Terms} → AllLess rk t us → (x : ℕ) → Ins x us → In x t
    less_letters none_there x i = elim i [ ]
    less_letters (this_less h hs) x (here i) = greater_letters h x i
    less_letters (this_less h hs) x (there i) = less_letters hs x i

  -- t is greater than each of ts, if it is greater than all that one of ts is at least
  less_parts : (t : Term) (ts : Terms) → ((u : Term) → SomeAtLeast rk ts u → Greater rk t u) → AllLess rk t ts
  less_parts t none1 h = none_there
  less_parts t (and1 u ts) h = this_less (h u this_is) (less_parts t ts (λ v p. h v (later p)))

  -- in places
  mutual
    pub greater_place : {v w t : Term} (p : Part v t) → Greater rk v w → Greater rk t (fill p letter w)
    greater_place itself g = g
    greater_place (in_part {f = f} {ts = ts} p) g = by_order (first_place p g) (less_place p g (sign f ts) (λ u h. by_part h))

    first_place : {v w : Term} {ts : Terms} (p : Parts v ts) → Greater rk v w → FirstGreater rk ts (fills p letter w)
    first_place (in_this p) g = here_greater (greater_place p g)
    first_place (in_later {t = t} p) g = rw (put_letter t) (further (first_place p g))

    less_place : {v w : Term} {ts : Terms} (p : Parts v ts) → Greater rk v w →
        (t : Term) → ((u : Term) → SomeAtLeast rk ts u → Greater rk t u) → AllLess rk t (fills p letter w)
    less_place (in_this {ts = ts} p) g t h =
        this_less (h _ (this_more (greater_place p g))) (rw (puts_letter ts) (less_parts t ts (λ v q. h v (later q))))
    less_place (in_later {t = u} p) g t h = this_less (rw (put_letter u) (h u this_is)) (less_place p g t (λ v q. h v (later q)))

-- a step is a rule used at the top of a part
data AtPart (rs : List Eq) (t u : Term) : Type 0 where
  at_part : {v w : Term} (p : Part v t) → Top rs v w → u ≡ fill p letter w → AtPart rs t u

data AtParts (rs : List Eq) (ts us : Terms) : Type 0 where
  at_parts : {v w : Term} (p : Parts v ts) → Top rs v w → us ≡ fills p letter w → AtParts rs ts us

sign_at : {rs : List Eq} {ts us : Terms} (f : ℕ) → AtParts rs ts us → AtPart rs (sign f ts) (sign f us)
sign_at f (at_parts p a e) = at_part (in_part p) a (ap (sign f) e)

first_at : {rs : List Eq} {t u : Term} (ts : Terms) → AtPart rs t u → AtParts rs (and1 t ts) (and1 u ts)
first_at ts (at_part p a e) = let d = puts_letter ts in at_parts (in_this p) a (cc)

rest_at : {rs : List Eq} (t : Term) {ts us : Terms} → AtParts rs ts us → AtParts rs (and1 t ts) (and1 t us)
rest_at t (at_parts p a e) = let d = put_letter t in at_parts (in_later p) a (cc)

mutual
  step_at : {rs : List Eq} {t u : Term} → Step rs t u → AtPart rs t u
  step_at (at_top i r s e) = at_part itself (top_of i r s e) refl
  step_at (below {f = f} h) = sign_at f (steps1_at h)

  steps1_at : {rs : List Eq} {ts us : Terms} → Steps1 rs ts us → AtParts rs ts us
  steps1_at (in_first {ts = ts} h) = first_at ts (step_at h)
  steps1_at (in_rest {t = t} h) = rest_at t (steps1_at h)

-- steps go down
module _ (rk : Rank) (rs : List Eq) (down : AllDown rk rs) where
  top_down : {t u : Term} → Top rs t u → Greater rk t u
  top_down a = rw (a.from, a.to) (greater_put rk a.s (down a.i a.r a.has))

  place_down : {t u : Term} → AtPart rs t u → Greater rk t u
  place_down (at_part p a e) = rw e (greater_place rk p (top_down a))

  pub step_down : {t u : Term} → Step rs t u → Greater rk t u
  step_down h = place_down (step_at h)

pub order_kept_lem : OrderKept
order_kept_lem = record {
  putting = λ rk s t u g. greater_put rk s g;
  placing = λ rk t v w p g. greater_place rk p g;
  stepping = λ rk rs down t u h. step_down rk rs down h;
}
