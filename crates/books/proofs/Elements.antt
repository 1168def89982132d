-- Elements of lists: `nth`, which may find none, beside `get_or`, `length`, `take` and `++`.
use Rattle.std.proofs.Common.{◌≡◌, ℕ, zero, suc, ◌<◌, ◌≤◌, List, [], ◌∷◌, length, get_or, refl, arith}
use mathlib.Core.Option.{some, none}
use Rattle.rewriting.specs.Terms.{nth}
use Rattle.rewriting.proofs.Choosing.{no_some}

pub nth_getD : {A : Type 0} (xs : List A) (i : ℕ) (d : A) → i < length xs → nth xs i ≡ some (get_or xs i d)
nth_getD [] i d h = absurd (omega arith)
nth_getD (x ∷ xs) zero d h = refl
nth_getD (x ∷ xs) (suc i) d h = nth_getD xs i d (omega arith)

pub nth_past : {A : Type 0} (xs : List A) (i : ℕ) → length xs ≤ i → nth xs i ≡ none
nth_past [] i h = refl
nth_past (x ∷ xs) zero h = absurd (omega arith)
nth_past (x ∷ xs) (suc i) h = nth_past xs i (omega arith)

pub nth_below : {A : Type 0} (xs : List A) (i : ℕ) (a : A) → nth xs i ≡ some a → i < length xs
nth_below [] i a e = absurd (no_some e)
nth_below (x ∷ xs) zero a e = omega arith
nth_below (x ∷ xs) (suc i) a e = omega (arith, nth_below xs i a e)

pub nth_is : {A : Type 0} (xs : List A) (i : ℕ) (a d : A) → nth xs i ≡ some a → get_or xs i d ≡ a
nth_is [] i a d e = absurd (no_some e)
nth_is (x ∷ xs) zero a d e = cc
nth_is (x ∷ xs) (suc i) a d e = nth_is xs i a d e
