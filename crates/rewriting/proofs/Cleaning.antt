-- Every term made one over a signature: what is not of it becomes letter 0.
use mathlib.Core.Path.{◌≡◌, refl, sym, ◌∙◌, ap}
use mathlib.Core.List.{List}
use mathlib.Core.Option.{some}
use Prim.Native.Nat.{ℕ, ◌+◌}
use Rattle.rewriting.specs.Terms.{nth, Term, letter, sign, Terms, none1, and1, put, puts, count, AllOver, AnyLetter, Fits}
use Rattle.rewriting.proofs.Choosing.{pick, pick_has, pick_yes, dec_some}
use Rattle.rewriting.proofs.Replacing.{put_letter, count_puts}

module _ (ps : List ℕ) where
  abbrev mutual
    pub clean : Term → Term
    clean (letter x) = letter x
    clean (sign f ts) = pick (dec_some (nth ps f) (count ts)) (sign f (cleans ts)) (letter 0)

    pub cleans : Terms → Terms
    cleans none1 = none1
    cleans (and1 t ts) = and1 (clean t) (cleans ts)

  count_cleans : (ts : Terms) → count (cleans ts) ≡ count ts
  count_cleans none1 = refl
  count_cleans (and1 t ts) = ap (λ n. 1 + n) (count_cleans ts)

  mutual
    pub clean_fits : (t : Term) → Fits ps (clean t)
    clean_fits (letter x) = tt
    clean_fits (sign f ts) = pick_has (Fits ps) (dec_some (nth ps f) (count ts)) (sign f (cleans ts)) (letter 0)
        (λ e. (e ∙ ap some (sym (count_cleans ts)), cleans_fit ts)) (λ n. tt)

    cleans_fit : (ts : Terms) → AllOver AnyLetter ps (cleans ts)
    cleans_fit none1 = tt
    cleans_fit (and1 t ts) = (clean_fits t, cleans_fit ts)

  -- terms over the signature are kept, also in replacing
  mutual
    pub clean_put : (s : ℕ → Term) (t : Term) → Fits ps t → clean (put s t) ≡ put (λ x. clean (s x)) t
    clean_put s (letter x) h = refl
    clean_put s (sign f ts) h =
        pick_yes (dec_some (nth ps f) (count (puts s ts))) (sign f (cleans (puts s ts))) (letter 0) (h.0 ∙ ap some (sym (count_puts s ts)))
        ∙ ap (sign f) (cleans_puts s ts h.1)

    cleans_puts : (s : ℕ → Term) (ts : Terms) → AllOver AnyLetter ps ts → cleans (puts s ts) ≡ puts (λ x. clean (s x)) ts
    cleans_puts s none1 h = refl
    cleans_puts s (and1 t ts) h = let a = clean_put s t h.0 in let b = cleans_puts s ts h.1 in cc

  pub clean_same : (t : Term) → Fits ps t → clean t ≡ t
  clean_same t h = ap clean (sym (put_letter t)) ∙ (clean_put letter t h ∙ put_letter t)
