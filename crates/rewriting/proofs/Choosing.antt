-- Decisions put together, values picked by them, and what all elements of a list have.
use mathlib.Core.Path.{◌≡◌, refl, ap, subst}
use mathlib.Core.Logic.{◌⊎◌, inl, inr}
use mathlib.Core.List.{List, [], ◌∷◌}
use mathlib.Core.Option.{Option, some, none}
use Prim.Native.Nat.{ℕ, zero, suc}
use native.Mathlib.Omega.{arith}
use native.Mathlib.Decide.{ℕ_discrete}
use Rattle.rewriting.specs.Terms.{nth}

pub no_some : {A : Type 0} {a : A} → none ≡ some a → ⊥
no_some e = let z : ◌≡◌ {A = ℕ} 0 1 = cc in omega arith

-- the first if B, else the second
pub pick : {A B : Type 0} → Dec B → A → A → A
pick (yes e) a b = a
pick (no n) a b = b

-- what is picked has P if what could be has it
pub pick_has : {A B : Type 0} (P : A → Type 0) (d : Dec B) (a b : A) → (B → P a) → ((B → ⊥) → P b) → P (pick d a b)
unfolding pick
pick_has P (yes e) a b h k = h e
pick_has P (no n) a b h k = k n

pub pick_yes : {A B : Type 0} (d : Dec B) (a b : A) → B → pick d a b ≡ a
pick_yes {A} d a b h = pick_has (λ (c : A). c ≡ a) d a b (λ e. refl) (λ n. absurd (n h))

pub pick_no : {A B : Type 0} (d : Dec B) (a b : A) → (B → ⊥) → pick d a b ≡ b
pick_no {A} d a b h = pick_has (λ (c : A). c ≡ b) d a b (λ e. absurd (h e)) (λ n. refl)

pub dec_map : {A B : Type 0} → (A → B) → (B → A) → Dec A → Dec B
dec_map f g (yes a) = yes (f a)
dec_map f g (no n) = no λ b. n (g b)

pub dec_both : {A B : Type 0} → Dec A → Dec B → Dec (A × B)
dec_both (yes a) (yes b) = yes (a, b)
dec_both (yes a) (no n) = no λ p. n p.1
dec_both (no n) b = no λ p. n p.0

pub dec_either : {A B : Type 0} → Dec A → Dec B → Dec (A ⊎ B)
dec_either (yes a) b = yes (inl a)
dec_either (no n) (yes b) = yes (inr b)
dec_either (no n) (no m) = no λ p. elim p [ inl a ↦ n a | inr b ↦ m b ]

pub dec_some : (o : Option ℕ) (n : ℕ) → Dec (o ≡ some n)
dec_some none n = no no_some
dec_some (some m) n = dec_map (ap some) (λ e. cc) (ℕ_discrete m n)

-- or else N
pub map_or : {A B N : Type 0} → (A → B) → A ⊎ N → B ⊎ N
map_or f (inl a) = inl (f a)
map_or f (inr n) = inr n

pub both_or : {A B C N : Type 0} → (A → B → C) → A ⊎ N → B ⊎ N → C ⊎ N
both_or f (inl a) (inl b) = inl (f a b)
both_or f (inl a) (inr n) = inr n
both_or f (inr n) b = inr n

-- each element of a list has P
abbrev pub Each : {A : Type 0} → (A → Type 0) → List A → Type 0
Each {A} P xs = (i : ℕ) (x : A) → nth xs i ≡ some x → P x

pub each_none : {A : Type 0} (P : A → Type 0) → Each P []
each_none P i x e = absurd (no_some e)

pub each_cons : {A : Type 0} (P : A → Type 0) (x : A) (xs : List A) → P x → Each P xs → Each P (x ∷ xs)
each_cons P x xs p ps zero y e = let q : x ≡ y = cc in subst P q p
each_cons P x xs p ps (suc i) y e = ps i y e

-- each has P, or else N, if that can be told of each
pub each_or : {A : Type 0} (P : A → Type 0) (N : Type 0) (xs : List A) →
    ((i : ℕ) (x : A) → nth xs i ≡ some x → P x ⊎ N) → Each P xs ⊎ N
each_or P N [] h = inl (each_none P)
each_or P N (x ∷ xs) h = both_or (each_cons P x xs) (h 0 x refl) (each_or P N xs (λ i y e. h (suc i) y e))

pub dec_each : {A : Type 0} (P : A → Type 0) → ((x : A) → Dec (P x)) → (xs : List A) → Dec (Each P xs)
dec_each {A} P d xs = told (each_or P (Each P xs → ⊥) xs (λ i x e. one i x e (d x)))
  where
    one : (i : ℕ) (x : A) → nth xs i ≡ some x → Dec (P x) → P x ⊎ (Each P xs → ⊥)
    one i x e (yes p) = inl p
    one i x e (no n) = inr (λ h. n (h i x e))

    told : Each P xs ⊎ (Each P xs → ⊥) → Dec (Each P xs)
    told (inl h) = yes h
    told (inr n) = no n
