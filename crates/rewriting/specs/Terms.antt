-- First-order terms: letters (variables) and signs (function symbols) with parts (arguments); replacing letters; sizes.
use Rattle.std.specs.Prelude.{◌≡◌, List, [], ◌∷◌, ℕ, zero, suc, ◌+◌, ◌<◌}
use Rattle.std.proofs.Math.Option.{Option, some, none}

-- element n of a list, if it has one
abbrev pub nth : {A : Type 0} → List A → ℕ → Option A
nth [] n = none
nth (x ∷ xs) zero = some x
nth (x ∷ xs) (suc n) = nth xs n

-- a letter, to be replaced, or a sign with its parts
mutual
  pub data Term : Type 0 where
    letter : ℕ → Term
    sign : ℕ → Terms → Term

  pub data Terms : Type 0 where
    none1 : Terms
    and1 : Term → Terms → Terms

-- replacing (applying a substitution): s x is put for each letter x, everywhere
abbrev mutual
  pub put : (ℕ → Term) → Term → Term
  put s (letter x) = s x
  put s (sign f ts) = sign f (puts s ts)

  pub puts : (ℕ → Term) → Terms → Terms
  puts s none1 = none1
  puts s (and1 t ts) = and1 (put s t) (puts s ts)

-- how many letters and signs a term has
abbrev mutual
  pub size : Term → ℕ
  size (letter x) = 1
  size (sign f ts) = 1 + sizes ts

  pub sizes : Terms → ℕ
  sizes none1 = 0
  sizes (and1 t ts) = size t + sizes ts

-- how many parts there are
abbrev pub count : Terms → ℕ
count none1 = 0
count (and1 t ts) = 1 + count ts

-- parts with others behind them
abbrev pub glue : Terms → Terms → Terms
glue none1 us = us
glue (and1 t ts) us = and1 t (glue ts us)

-- letter x stands in a term
mutual
  pub data In (x : ℕ) : Term → Type 0 where
    is : In x (letter x)
    part : {f : ℕ} {ts : Terms} → Ins x ts → In x (sign f ts)

  pub data Ins (x : ℕ) : Terms → Type 0 where
    here : {t : Term} {ts : Terms} → In x t → Ins x (and1 t ts)
    there : {t : Term} {ts : Terms} → Ins x ts → Ins x (and1 t ts)

-- a term over a signature: each sign f has the number of parts that ps gives it, and each letter has L
abbrev mutual
  pub Over : (ℕ → Type 0) → List ℕ → Term → Type 0
  Over L ps (letter x) = L x
  Over L ps (sign f ts) = (nth ps f ≡ some (count ts)) × AllOver L ps ts

  pub AllOver : (ℕ → Type 0) → List ℕ → Terms → Type 0
  AllOver L ps none1 = Unit {0}
  AllOver L ps (and1 t ts) = Over L ps t × AllOver L ps ts

-- the letters that a book may use, and any letters
abbrev pub SmallLetter : ℕ → Type 0
SmallLetter x = x < 16

abbrev pub AnyLetter : ℕ → Type 0
AnyLetter x = Unit {0}

-- a term over the signature ps with letters below 16; with any letters
abbrev pub Ok : List ℕ → Term → Type 0
Ok ps t = Over SmallLetter ps t

abbrev pub Fits : List ℕ → Term → Type 0
Fits ps t = Over AnyLetter ps t
