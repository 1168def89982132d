-- Members of lists, and how many different ones there can be.
use mathlib.Core.Path.{◌≡◌, refl, ap}
use mathlib.Core.Logic.{◌⊎◌, inl, inr, ⊎_elim}
use mathlib.Core.List.{List, [], ◌∷◌, ◌++◌}
use Prim.Native.Nat.{ℕ, zero, suc, ◌<◌, ◌≤◌}
use native.Mathlib.Omega.{arith}
use lib.ListN.{length, get_or}

pub data Mem {A : Type 0} (x : A) : List A → Type 0 where
  first : {xs : List A} → Mem x (x ∷ xs)
  later : {y : A} {xs : List A} → Mem x xs → Mem x (y ∷ xs)

-- the list without that member
without : {A : Type 0} {x : A} {xs : List A} → Mem x xs → List A
without (first {xs = xs}) = xs
without (later {y = y} m) = y ∷ without m

shorter : {A : Type 0} {x : A} {xs : List A} (m : Mem x xs) → length xs ≡ suc (length (without m))
unfolding without
shorter first = refl
shorter (later m) = ap suc (shorter m)

others : {A : Type 0} {x y : A} {xs : List A} (m : Mem x xs) → Mem y xs → (y ≡ x → ⊥) → Mem y (without m)
unfolding without
others first first n = absurd (n refl)
others first (later k) n = k
others (later m) first n = first
others (later m) (later k) n = later (others m k n)

-- a list with n different members has n elements at least
pub pigeon : {A : Type 0} (n : ℕ) (f : ℕ → A) (xs : List A) → ((i : ℕ) → i < n → Mem (f i) xs) →
    ((i j : ℕ) → i < j → j < n → f i ≡ f j → ⊥) → n ≤ length xs
pigeon zero f xs m d = omega arith
pigeon (suc n) f xs m d =
    let k = m n (omega arith) in
    let l : n ≤ length (without k) = pigeon n f (without k)
    (λ i h. others k (m i (omega arith)) (d i n h (omega arith))) (λ i j a b. d i j a (omega arith)) in
    let e = shorter k in omega arith

pub mem_left : {A : Type 0} {x : A} {xs : List A} (ys : List A) → Mem x xs → Mem x (xs ++ ys)
mem_left ys first = first
mem_left ys (later m) = later (mem_left ys m)

pub mem_right : {A : Type 0} {x : A} (xs : List A) {ys : List A} → Mem x ys → Mem x (xs ++ ys)
mem_right [] m = m
mem_right (y ∷ xs) m = later (mem_right xs m)

pub mem_split : {A : Type 0} {x : A} (xs ys : List A) → Mem x (xs ++ ys) → Mem x xs ⊎ Mem x ys
mem_split [] ys m = inr m
mem_split (y ∷ xs) ys first = inl first
mem_split (y ∷ xs) ys (later m) = ⊎_elim (λ k. inl (later k)) (λ k. inr k) (mem_split xs ys m)

pub mem_at : {A : Type 0} (xs : List A) (d : A) (j : ℕ) → j < length xs → Mem (get_or xs j d) xs
mem_at [] d j l = absurd (omega arith)
mem_at (x ∷ xs) d zero l = first
mem_at (x ∷ xs) d (suc j) l = later (mem_at xs d j (omega arith))
