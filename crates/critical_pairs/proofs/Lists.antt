-- Lists that are mapped and joined: their members, and that they are in order.
use Rattle.std.proofs.Common.{List, [], ◌∷◌, ◌++◌, map, inl, inr}
use Rattle.std.specs.List.{flat_map}
use Rattle.rewriting.proofs.Members.{Mem, first, later, mem_left, mem_right, mem_split}

-- members
pub mem_map : {A B : Type 0} (f : A → B) {x : A} {xs : List A} → Mem x xs → Mem (f x) (map f xs)
mem_map f first = first
mem_map f (later m) = later (mem_map f m)

pub mem_flat_map : {A B : Type 0} (f : A → List B) {x : A} {xs : List A} {y : B} → Mem x xs → Mem y (f x) → Mem y (flat_map f xs)
mem_flat_map f (first {xs = xs}) m = mem_left (flat_map f xs) m
mem_flat_map f (later {y = z} k) m = mem_right (f z) (mem_flat_map f k m)

-- all members have P if all that they are made of give such
pub all_map : {A B : Type 0} (f : A → B) (P : B → Type 0) (xs : List A) → ((x : A) → Mem x xs → P (f x)) →
    (y : B) → Mem y (map f xs) → P y
all_map f P [] h y m = elim m [ ]
all_map f P (x ∷ xs) h y first = h x first
all_map f P (x ∷ xs) h y (later m) = all_map f P xs (λ z k. h z (later k)) y m

pub all_flat_map : {A B : Type 0} (f : A → List B) (P : B → Type 0) (xs : List A) →
    ((x : A) → Mem x xs → (y : B) → Mem y (f x) → P y) → (y : B) → Mem y (flat_map f xs) → P y
all_flat_map f P [] h y m = elim m [ ]
all_flat_map f P (x ∷ xs) h y m = elim (mem_split (f x) (flat_map f xs) m) [
  | inl k ↦ h x first y k
  | inr k ↦ all_flat_map f P xs (λ z l. h z (later l)) y k
]

-- each member is before all behind it
abbrev pub Ordered : {A : Type 0} → (A → A → Type 0) → List A → Type 0
Ordered R [] = Unit {0}
Ordered {A} R (x ∷ xs) = ((y : A) → Mem y xs → R x y) × Ordered R xs

pub ordered_append : {A : Type 0} (R : A → A → Type 0) (xs ys : List A) → Ordered R xs → Ordered R ys →
    ((x y : A) → Mem x xs → Mem y ys → R x y) → Ordered R (xs ++ ys)
ordered_append R [] ys h k c = k
ordered_append R (x ∷ xs) ys h k c = (
  λ y m. elim (mem_split xs ys m) [ inl l ↦ h.0 y l | inr l ↦ c x y first l ],
  ordered_append R xs ys h.1 k (λ z y l m. c z y (later l) m),
)

pub ordered_map : {A B : Type 0} (R : A → A → Type 0) (S : B → B → Type 0) (f : A → B) → ((x y : A) → R x y → S (f x) (f y)) →
    (xs : List A) → Ordered R xs → Ordered S (map f xs)
ordered_map R S f h [] k = tt
ordered_map R S f h (x ∷ xs) k = (all_map f (S (f x)) xs (λ y m. h x y (k.0 y m)), ordered_map R S f h xs k.1)

pub ordered_flat_map : {A B : Type 0} (R : A → A → Type 0) (S : B → B → Type 0) (f : A → List B) → ((x : A) → Ordered S (f x)) →
    ((x y : A) → R x y → (v w : B) → Mem v (f x) → Mem w (f y) → S v w) → (xs : List A) → Ordered R xs → Ordered S (flat_map f xs)
ordered_flat_map R S f h c [] k = tt
ordered_flat_map R S f h c (x ∷ xs) k = ordered_append S (f x) (flat_map f xs) (h x) (ordered_flat_map R S f h c xs k.1)
    (λ v w m. all_flat_map f (S v) xs (λ y l w n. c x y (k.0 y l) v w m n) w)
