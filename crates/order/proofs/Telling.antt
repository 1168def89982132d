-- Exact answers on the order, from exact answers on the parts.
use Rattle.std.proofs.Common.{◌≡◌, ℕ, Bool, true, false, ◌⊎◌, sym, refl, subst, inl, inr}
use borrow.Author.Tests.{clash}
use Rattle.rewriting.specs.Terms.{Term, letter, sign, Terms, none1, and1}
use Rattle.rewriting.specs.Order.{Rank, Greater, by_part, by_sign, by_order, SomeAtLeast, this_is, this_more, later}
use Rattle.rewriting.specs.Order.{AllLess, this_less, FirstGreater, here, further}
use Rattle.rewriting.specs.Answers.{Tells}
use Rattle.order.specs.Comparing.{Before}

pub tells_yes : {P : Type 0} → P → Tells true P
tells_yes p = record { holds = λ e. p; fails = λ e. absurd (clash (sym e)) }

pub tells_no : {P : Type 0} → (P → ⊥) → Tells false P
tells_no n = record { holds = λ e. absurd (clash e); fails = λ e. n }

pub tells_through : {P Q : Type 0} {r : Bool} → (P → Q) → (Q → P) → Tells r P → Tells r Q
tells_through f g t = record { holds = λ e. f (t.holds e); fails = λ e q. t.fails e (g q) }

module _ {rk : Rank} where
  -- one of the terms
  none_some : {u : Term} → SomeAtLeast rk none1 u → ⊥
  none_some s = elim s [ ]

  pub some_none : {u : Term} → Tells false (SomeAtLeast rk none1 u)
  some_none = tells_no none_some

  pub some_is : {t u : Term} {ts : Terms} → t ≡ u → Tells true (SomeAtLeast rk (and1 t ts) u)
  some_is {t} {u} {ts} e = tells_yes (subst (λ (v : Term). SomeAtLeast rk (and1 t ts) v) e this_is)

  some_rest : {t u : Term} {ts : Terms} → (t ≡ u → ⊥) → (Greater rk t u → ⊥) → SomeAtLeast rk (and1 t ts) u → SomeAtLeast rk ts u
  some_rest n m this_is = absurd (n refl)
  some_rest n m (this_more g) = absurd (m g)
  some_rest n m (later s) = s

  pub some_later : {t u : Term} {ts : Terms} {r : Bool} → (t ≡ u → ⊥) → (Greater rk t u → ⊥) → Tells r (SomeAtLeast rk ts u) →
      Tells r (SomeAtLeast rk (and1 t ts) u)
  some_later n m = tells_through later (some_rest n m)

  -- each of the terms
  less_first : {t u : Term} {us : Terms} → AllLess rk t (and1 u us) → Greater rk t u
  less_first (this_less g a) = g

  less_rest : {t u : Term} {us : Terms} → AllLess rk t (and1 u us) → AllLess rk t us
  less_rest (this_less g a) = a

  pub all_not : {t u : Term} {us : Terms} → (Greater rk t u → ⊥) → Tells false (AllLess rk t (and1 u us))
  all_not n = tells_no λ a. n (less_first a)

  pub all_later : {t u : Term} {us : Terms} {r : Bool} → Greater rk t u → Tells r (AllLess rk t us) → Tells r (AllLess rk t (and1 u us))
  all_later g = tells_through (λ a. this_less g a) less_rest

  -- the first terms that differ
  pub first_none : {us : Terms} → FirstGreater rk none1 us → ⊥
  first_none o = elim o [ ]

  pub first_none_right : {ts : Terms} → FirstGreater rk ts none1 → ⊥
  first_none_right o = elim o [ ]

  pub first_cases : {t u : Term} {ts us : Terms} → FirstGreater rk (and1 t ts) (and1 u us) →
      Greater rk t u ⊎ ((t ≡ u) × FirstGreater rk ts us)
  first_cases (here g) = inl g
  first_cases (further o) = inr (refl, o)

  pub first_here : {t u : Term} {ts us : Terms} {r : Bool} → (t ≡ u → ⊥) → Tells r (Greater rk t u) →
      Tells r (FirstGreater rk (and1 t ts) (and1 u us))
  first_here {t} {u} {ts} {us} n = tells_through here back
    where
      back : FirstGreater rk (and1 t ts) (and1 u us) → Greater rk t u
      back o = elim (first_cases o) [ inl g ↦ g | inr h ↦ absurd (n h.0) ]

  -- signs
  letter_least : {x : ℕ} {u : Term} → Greater rk (letter x) u → ⊥
  letter_least g = elim g [ ]

  pub greater_letter : {x : ℕ} {u : Term} → Tells false (Greater rk (letter x) u)
  greater_letter = tells_no letter_least

  over_letter : {f x : ℕ} {ts : Terms} → Greater rk (sign f ts) (letter x) → SomeAtLeast rk ts (letter x)
  over_letter (by_part s) = s

  pub greater_than_letter : {f x : ℕ} {ts : Terms} → (SomeAtLeast rk ts (letter x) → ⊥) → Tells false (Greater rk (sign f ts) (letter x))
  greater_than_letter n = tells_no λ g. n (over_letter g)

  over_sign : {f g : ℕ} {ts us : Terms} → Greater rk (sign f ts) (sign g us) →
      SomeAtLeast rk ts (sign g us) ⊎ (Before rk f g ts us × AllLess rk (sign f ts) us)
  over_sign (by_part s) = inl s
  over_sign (by_sign l a) = inr (inl l, a)
  over_sign (by_order o a) = inr (inr (refl, o), a)

  from_before : {f g : ℕ} {ts us : Terms} → Before rk f g ts us → AllLess rk (sign f ts) us → Greater rk (sign f ts) (sign g us)
  from_before (inl l) a = by_sign l a
  from_before {f} {g} {ts} {us} (inr o) a = subst (λ (h : ℕ). Greater rk (sign f ts) (sign h us)) o.0 (by_order o.1 a)

  module _ {f g : ℕ} {ts us : Terms} (n : SomeAtLeast rk ts (sign g us) → ⊥) where
    over_both : Greater rk (sign f ts) (sign g us) → Before rk f g ts us × AllLess rk (sign f ts) us
    over_both g = elim (over_sign g) [ inl s ↦ absurd (n s) | inr h ↦ h ]

    pub greater_not_before : (Before rk f g ts us → ⊥) → Tells false (Greater rk (sign f ts) (sign g us))
    greater_not_before m = tells_no λ g. m (over_both g).0

    pub greater_before : {r : Bool} → Before rk f g ts us → Tells r (AllLess rk (sign f ts) us) →
        Tells r (Greater rk (sign f ts) (sign g us))
    greater_before b = tells_through (from_before b) (λ g. (over_both g).1)
