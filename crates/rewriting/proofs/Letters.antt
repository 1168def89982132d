-- Lists of letters: of a term, and with one letter taken out; and whether a letter stands in a term.
use mathlib.Core.Path.{◌≡◌, refl, subst}
use mathlib.Core.Logic.{◌⊎◌, inl, inr}
use mathlib.Core.List.{List, [], ◌∷◌, ◌++◌}
use Prim.Native.Nat.{ℕ, ◌<◌, ◌≤◌}
use native.Mathlib.Omega.{arith}
use native.Mathlib.Decide.{ℕ_discrete}
use lib.ListN.{length}
use Rattle.rewriting.specs.Terms.{Term, letter, sign, Terms, none1, and1, In, is, part, Ins, here, there}
use Rattle.rewriting.proofs.Choosing.{dec_map, dec_either, pick, pick_has}

pub data Member (x : ℕ) : List ℕ → Type 0 where
  first : {xs : List ℕ} → Member x (x ∷ xs)
  next : {y : ℕ} {xs : List ℕ} → Member x xs → Member x (y ∷ xs)

pub member_left : {x : ℕ} {xs : List ℕ} (ys : List ℕ) → Member x xs → Member x (xs ++ ys)
member_left ys first = first
member_left ys (next m) = next (member_left ys m)

pub member_right : {x : ℕ} (xs : List ℕ) {ys : List ℕ} → Member x ys → Member x (xs ++ ys)
member_right [] m = m
member_right (y ∷ xs) m = next (member_right xs m)

mutual
  pub letters : Term → List ℕ
  letters (letter x) = x ∷ []
  letters (sign f ts) = letters_all ts

  letters_all : Terms → List ℕ
  letters_all none1 = []
  letters_all (and1 t ts) = letters t ++ letters_all ts

mutual
  unfolding letters letters_all

  pub letters_has : {x : ℕ} {t : Term} → In x t → Member x (letters t)
  letters_has is = first
  letters_has (part i) = letters_all_has i

  letters_all_has : {x : ℕ} {ts : Terms} → Ins x ts → Member x (letters_all ts)
  letters_all_has (here {ts = ts} i) = member_left (letters_all ts) (letters_has i)
  letters_all_has (there {t = t} i) = member_right (letters t) (letters_all_has i)

pub remove : ℕ → List ℕ → List ℕ
remove x [] = []
remove x (y ∷ ys) = pick (ℕ_discrete x y) (remove x ys) (y ∷ remove x ys)

remove_has : (P : List ℕ → Type 0) (x y : ℕ) (ys : List ℕ) →
    (x ≡ y → P (remove x ys)) → ((x ≡ y → ⊥) → P (y ∷ remove x ys)) → P (remove x (y ∷ ys))
unfolding remove
remove_has P x y ys h k = pick_has P (ℕ_discrete x y) (remove x ys) (y ∷ remove x ys) h k

pub remove_keeps : (x : ℕ) {z : ℕ} {ys : List ℕ} → Member z ys → (x ≡ z → ⊥) → Member z (remove x ys)
remove_keeps x {z} (first {xs = ys}) n = remove_has (Member z) x z ys (λ e. absurd (n e)) (λ k. first)
remove_keeps x {z} (next {y = y} {xs = ys} m) n = let h = remove_keeps x m n in remove_has (Member z) x y ys (λ e. h) (λ k. next h)

remove_no_longer : (x : ℕ) (ys : List ℕ) → length (remove x ys) ≤ length ys
unfolding remove
remove_no_longer x [] = omega arith
remove_no_longer x (y ∷ ys) =
    let h = remove_no_longer x ys in
    remove_has (λ (zs : List ℕ). length zs ≤ length (y ∷ ys)) x y ys (λ e. omega arith) (λ k. omega arith)

pub remove_shorter : {x : ℕ} {ys : List ℕ} → Member x ys → length (remove x ys) < length ys
remove_shorter {x} (first {xs = ys}) =
    let h = remove_no_longer x ys in
    remove_has (λ (zs : List ℕ). length zs < length (x ∷ ys)) x x ys (λ e. omega arith) (λ k. absurd (k refl))
remove_shorter {x} (next {y = y} {xs = ys} m) =
    let h = remove_shorter m in
    remove_has (λ (zs : List ℕ). length zs < length (y ∷ ys)) x y ys (λ e. omega arith) (λ k. omega arith)

pub in_letter : {x y : ℕ} → In x (letter y) → x ≡ y
in_letter is = refl

-- whether a letter stands in a term
in_sign : {x f : ℕ} {ts : Terms} → In x (sign f ts) → Ins x ts
in_sign (part i) = i

in_cases : {x : ℕ} {t : Term} {ts : Terms} → Ins x (and1 t ts) → In x t ⊎ Ins x ts
in_cases (here i) = inl i
in_cases (there i) = inr i

in_from : {x : ℕ} {t : Term} {ts : Terms} → In x t ⊎ Ins x ts → Ins x (and1 t ts)
in_from (inl i) = here i
in_from (inr i) = there i

mutual
  pub dec_in : (x : ℕ) (t : Term) → Dec (In x t)
  dec_in x (letter y) = dec_map (λ e. subst (λ (z : ℕ). In x (letter z)) e is) in_letter (ℕ_discrete x y)
  dec_in x (sign f ts) = dec_map part in_sign (dec_ins x ts)

  dec_ins : (x : ℕ) (ts : Terms) → Dec (Ins x ts)
  dec_ins x none1 = no λ i. elim i [ ]
  dec_ins x (and1 t ts) = dec_map in_from in_cases (dec_either (dec_in x t) (dec_ins x ts))
