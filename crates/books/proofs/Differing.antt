-- Elements of which none is among those before it.
use Rattle.std.proofs.Common.{◌≡◌, ℕ, ◌+◌, ◌<◌, Bool, true, false, eqb, List, length, get_or, take, sym, ◌∙◌, subst, arith, eqb-true}
use Rattle.std.specs.Bool.{MatchBool}
use Rattle.std.specs.List.{IsAnyAnswer, AllWithin, HoldsAt, enumerate_from}
use Rattle.std.proofs.lemmas.List.{length-take-le, get_or-take}
use Rattle.std.proofs.lemmas.List.FromFn.{get_or-enumerate_from, length-enumerate_from}
use borrow.Author.Tests.{eqb-false, clash}
use Rattle.rewriting.specs.Answers.{Tells}
use Rattle.books.specs.Layouts.{AllDiffer}

module _ (xs : List ℕ) where
  -- whether an element is among those before it
  abbrev pub Before : Bool → ℕ × ℕ → Type 0
  Before b p = IsAnyAnswer (λ y c. eqb y p.1 ≡ c) (take p.0 xs) b

  at : (b : Bool) (k : ℕ) → k < length xs → Before b (get_or (enumerate_from 0 xs) k (0, 0)) → Before b (k, get_or xs k 0)
  at b k l h =
      let same : 0 + k ≡ k = omega arith in
      subst (λ (n : ℕ). Before b (n, get_or xs k 0)) same (subst (Before b) (get_or-enumerate_from 0 xs k (0, 0) l) h)

  pub differ : (r : Bool) → MatchBool r (AllWithin (Before false) (enumerate_from 0 xs) 0 (length (enumerate_from 0 xs)))
      ((k : ℕ) × (k < length (enumerate_from 0 xs)) × HoldsAt (Before true) (enumerate_from 0 xs) k) → Tells r (AllDiffer xs)
  differ true h = record {
    holds = λ e i j l k d.
        let none = at false j k (h j (0, 0) (omega arith) (omega (arith, length-enumerate_from 0 xs))) in
        eqb-false _ _ (none i 0 (omega arith) (omega (arith, length-take-le j xs (omega arith)))) (get_or-take j xs i 0 l ∙ d);
    fails = λ e. absurd (clash (sym e));
  }
  differ false (k, l, h) = record {
    holds = λ e. absurd (clash e);
    fails = λ e d.
        let low : k < length xs = omega (arith, length-enumerate_from 0 xs) in
        let (i, less, same) = at true k low (h (0, 0)) in
        let before : i < k = omega (arith, length-take-le k xs (omega arith)) in
        d i k before low (sym (get_or-take k xs i 0 before) ∙ eqb-true _ _ (same 0));
  }
