-- Replacing letters: twice, by what agrees, by themselves, at one letter, and around a part.
use mathlib.Core.Path.{◌≡◌, refl, sym, ◌∙◌, ap}
use Prim.Native.Nat.{ℕ, ◌+◌, ◌≤◌}
use native.Mathlib.Omega.{arith}
use native.Mathlib.Decide.{ℕ_discrete}
use Rattle.rewriting.specs.Terms.{Term, letter, sign, Terms, none1, and1, put, puts, size, sizes, count}
use Rattle.rewriting.specs.Terms.{In, is, part, Ins, here, there}
use Rattle.rewriting.specs.Rules.{Part, itself, in_part, Parts, in_this, in_later}
use Rattle.rewriting.specs.Overlaps.{fill, fills}
use Rattle.rewriting.proofs.Choosing.{pick, pick_has, pick_yes, pick_no}

-- twice
mutual
  pub put_put : (k s : ℕ → Term) (t : Term) → put k (put s t) ≡ put (λ x. put k (s x)) t
  put_put k s (letter x) = refl
  put_put k s (sign f ts) = ap (sign f) (puts_puts k s ts)

  pub puts_puts : (k s : ℕ → Term) (ts : Terms) → puts k (puts s ts) ≡ puts (λ x. put k (s x)) ts
  puts_puts k s none1 = refl
  puts_puts k s (and1 t ts) = let a = put_put k s t in let b = puts_puts k s ts in cc

-- by what agrees on the letters
mutual
  pub put_agree : (r s : ℕ → Term) (t : Term) → ((x : ℕ) → In x t → r x ≡ s x) → put r t ≡ put s t
  put_agree r s (letter x) h = h x is
  put_agree r s (sign f ts) h = ap (sign f) (puts_agree r s ts (λ x i. h x (part i)))

  pub puts_agree : (r s : ℕ → Term) (ts : Terms) → ((x : ℕ) → Ins x ts → r x ≡ s x) → puts r ts ≡ puts s ts
  puts_agree r s none1 h = refl
  puts_agree r s (and1 t ts) h =
      let a = put_agree r s t (λ x i. h x (here i)) in let b = puts_agree r s ts (λ x i. h x (there i)) in cc

-- one after another is a third
pub put_through : (k s r : ℕ → Term) → ((x : ℕ) → r x ≡ put k (s x)) → (t : Term) → put k (put s t) ≡ put r t
put_through k s r h t = put_put k s t ∙ put_agree (λ x. put k (s x)) r t (λ x i. sym (h x))

-- by themselves
mutual
  pub put_letter : (t : Term) → put letter t ≡ t
  put_letter (letter x) = refl
  put_letter (sign f ts) = ap (sign f) (puts_letter ts)

  pub puts_letter : (ts : Terms) → puts letter ts ≡ ts
  puts_letter none1 = refl
  puts_letter (and1 t ts) = let a = put_letter t in let b = puts_letter ts in cc

pub count_puts : (s : ℕ → Term) (ts : Terms) → count (puts s ts) ≡ count ts
count_puts s none1 = refl
count_puts s (and1 t ts) = ap (λ n. 1 + n) (count_puts s ts)

-- the letters of a replaced term
mutual
  pub in_put : (z : ℕ) (s : ℕ → Term) (t : Term) → In z (put s t) → (y : ℕ) × In y t × In z (s y)
  in_put z s (letter x) i = (x, is, i)
  in_put z s (sign f ts) (part i) = let h = ins_puts z s ts i in (h.0, part h.1, h.2)

  ins_puts : (z : ℕ) (s : ℕ → Term) (ts : Terms) → Ins z (puts s ts) → (y : ℕ) × Ins y ts × In z (s y)
  ins_puts z s none1 i = elim i [ ]
  ins_puts z s (and1 t ts) (here i) = let h = in_put z s t i in (h.0, here h.1, h.2)
  ins_puts z s (and1 t ts) (there i) = let h = ins_puts z s ts i in (h.0, there h.1, h.2)

-- what is put for a letter of a term is no larger than what the term becomes
mutual
  pub size_in : (s : ℕ → Term) {x : ℕ} {t : Term} → In x t → size (s x) ≤ size (put s t)
  size_in s is = omega arith
  size_in s (part i) = let h = sizes_in s i in omega arith

  pub sizes_in : (s : ℕ → Term) {x : ℕ} {ts : Terms} → Ins x ts → size (s x) ≤ sizes (puts s ts)
  sizes_in s (here i) = let h = size_in s i in omega arith
  sizes_in s (there i) = let h = sizes_in s i in omega arith

-- v for the letter x, the rest as it was
pub change : (ℕ → Term) → ℕ → Term → ℕ → Term
change s x v y = pick (ℕ_discrete x y) v (s y)

pub change_has : (P : Term → Type 0) (s : ℕ → Term) (x : ℕ) (v : Term) (y : ℕ) →
    (x ≡ y → P v) → ((x ≡ y → ⊥) → P (s y)) → P (change s x v y)
unfolding change
change_has P s x v y h k = pick_has P (ℕ_discrete x y) v (s y) h k

pub change_here : (s : ℕ → Term) (x : ℕ) (v : Term) → change s x v x ≡ v
unfolding change
change_here s x v = pick_yes (ℕ_discrete x x) v (s x) refl

pub change_other : (s : ℕ → Term) (x : ℕ) (v : Term) (y : ℕ) → (x ≡ y → ⊥) → change s x v y ≡ s y
unfolding change
change_other s x v y n = pick_no (ℕ_discrete x y) v (s y) n

-- the letters of a part
mutual
  pub in_place : {n t : Term} (x : ℕ) → Part n t → In x n → In x t
  in_place x itself i = i
  in_place x (in_part p) i = part (in_places x p i)

  in_places : {n : Term} {ts : Terms} (x : ℕ) → Parts n ts → In x n → Ins x ts
  in_places x (in_this p) i = here (in_place x p i)
  in_places x (in_later p) i = there (in_places x p i)

-- a letter that stands in a term is a part of it, and parts stay parts
mutual
  pub letter_part : {x : ℕ} {t : Term} → In x t → Part (letter x) t
  letter_part is = itself
  letter_part (part i) = in_part (letter_parts i)

  letter_parts : {x : ℕ} {ts : Terms} → Ins x ts → Parts (letter x) ts
  letter_parts (here i) = in_this (letter_part i)
  letter_parts (there i) = in_later (letter_parts i)

mutual
  pub put_part : (s : ℕ → Term) {v t : Term} → Part v t → Part (put s v) (put s t)
  put_part s itself = itself
  put_part s (in_part p) = in_part (put_parts_lem s p)

  put_parts_lem : (s : ℕ → Term) {v : Term} {ts : Terms} → Parts v ts → Parts (put s v) (puts s ts)
  put_parts_lem s (in_this p) = in_this (put_part s p)
  put_parts_lem s (in_later p) = in_later (put_parts_lem s p)

-- around a part
mutual
  pub fill_agree : {n t : Term} (p : Part n t) (r s : ℕ → Term) (w : Term) → ((x : ℕ) → In x t → r x ≡ s x) → fill p r w ≡ fill p s w
  fill_agree itself r s w h = refl
  fill_agree (in_part {f = f} p) r s w h = ap (sign f) (fills_agree p r s w (λ x i. h x (part i)))

  fills_agree : {n : Term} {ts : Terms} (p : Parts n ts) (r s : ℕ → Term) (w : Term) →
      ((x : ℕ) → Ins x ts → r x ≡ s x) → fills p r w ≡ fills p s w
  fills_agree (in_this {ts = ts} p) r s w h =
      let a = fill_agree p r s w (λ x i. h x (here i)) in let b = puts_agree r s ts (λ x i. h x (there i)) in cc
  fills_agree (in_later {t = t} p) r s w h =
      let a = put_agree r s t (λ x i. h x (here i)) in let b = fills_agree p r s w (λ x i. h x (there i)) in cc

mutual
  pub put_fill : {n t : Term} (p : Part n t) (k s : ℕ → Term) (w : Term) → put k (fill p s w) ≡ fill p (λ x. put k (s x)) (put k w)
  put_fill itself k s w = refl
  put_fill (in_part {f = f} p) k s w = ap (sign f) (puts_fills p k s w)

  puts_fills : {n : Term} {ts : Terms} (p : Parts n ts) (k s : ℕ → Term) (w : Term) →
      puts k (fills p s w) ≡ fills p (λ x. put k (s x)) (put k w)
  puts_fills (in_this {ts = ts} p) k s w = let a = put_fill p k s w in let b = puts_puts k s ts in cc
  puts_fills (in_later {t = t} p) k s w = let a = put_put k s t in let b = puts_fills p k s w in cc
