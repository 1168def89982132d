-- The height of a term: how many steps it can take at most, each counted with a weight. Every step makes it smaller.
use mathlib.Core.Path.{◌≡◌, refl, ap, subst, fun_ext}
use mathlib.Core.List.{List, [], ◌∷◌}
use Prim.Native.Nat.{ℕ, suc, ◌+◌, ◌<◌, ◌≤◌, max}
use native.Mathlib.Omega.{arith}
use Rattle.rewriting.specs.Terms.{Term, Fits}
use Rattle.rewriting.specs.Rules.{Eq, Step, Ends, ends}
use Rattle.rewriting.specs.Order.{Rank, rank, AllDown}
use Rattle.rewriting.specs.Books.{Book, Fine}
use Rattle.rewriting.specs.Theorems.{Falls}
use Rattle.rewriting.proofs.Choosing.{dec_both, dec_each}
use Rattle.rewriting.proofs.Stepping.{NoNewLetters}
use Rattle.rewriting.proofs.Signature.{dec_fits}
use Rattle.rewriting.proofs.Comparing.{dec_greater}
use Rattle.rewriting.proofs.Terminating.{FallsTo, Falling, falling, down_letters, step_keeps, falling_ends}
use Rattle.rewriting.proofs.Reducts.{Has, first, next, reducts, has_step}

-- the greatest of the numbers of a list
module _ {A : Type 0} {P : A → Type 0} where
  abbrev greatest : List ((b : A) × P b) → ((b : A) → P b → ℕ) → ℕ
  greatest [] m = 0
  greatest (p ∷ ps) m = max (m p.0 p.1) (greatest ps m)

  has_greatest : {a : A} {ps : List ((b : A) × P b)} → Has {P = P} a ps → (m : (b : A) → P b → ℕ) → (q : P a) × (m a q ≤ greatest ps m)
  has_greatest (first {p = p} {ps = ps} e) m =
      subst (λ (b : A). (q : P b) × (m b q ≤ max (m p.0 p.1) (greatest ps m))) e (p.1, omega arith)
  has_greatest (next h) m = let (q, l) = has_greatest h m in (q, omega arith)

module _ (rs : List Eq) (weight : Term → ℕ) where
  -- a step counts 1 and the weight of the term that it leads to
  height_of : {t : Term} → Ends rs t → ℕ
  height_of (ends {t = t} h) = greatest (reducts rs t) (λ u p. suc (weight u + height_of (h u p)))

  -- that steps end is known in one way only, so the height is of the term
  ends_by : {t : Term} (b : Ends rs t) (h : (u : Term) → Step rs t u → Ends rs u) →
      ((u : Term) (p : Step rs t u) (c : Ends rs u) → c ≡ h u p) → b ≡ ends h
  ends_by (ends k) h each = ap ends (fun_ext (λ u. fun_ext (λ p. each u p (k u p))))

  ends_one : {t : Term} (a b : Ends rs t) → b ≡ a
  ends_one (ends h) b = ends_by b h (λ u p c. ends_one (h u p) c)

  height_less : NoNewLetters rs →
      {t u : Term} (a : Ends rs t) (b : Ends rs u) → Step rs t u → weight u + height_of b < height_of a
  unfolding height_of
  height_less keep {u = u} (ends {t = t} h) b p =
      let (q, l) = has_greatest (has_step rs keep p) (λ u p. suc (weight u + height_of (h u p))) in rw (ends_one (h u q) b) (omega arith)

-- a total function: 0 unless the rules go down and the term is over the signature
module _ (rk : Rank) (ps : List ℕ) (rs : List Eq) (weight : Term → ℕ) (t : Term) where
  height_if : Dec (Falling rk ps rs) → Dec (Fits ps t) → ℕ
  height_if (yes d) (yes f) = height_of rs weight (falling_ends rk ps rs d t f)
  height_if (yes d) (no n) = 0
  height_if (no n) f = 0

  height_is : (x : Dec (Falling rk ps rs)) (y : Dec (Fits ps t)) → Falling rk ps rs → Fits ps t →
      (e : Ends rs t) × (height_if x y ≡ height_of rs weight e)
  unfolding height_if
  height_is (yes d) (yes f) fall fit = (falling_ends rk ps rs d t f, refl)
  height_is (yes d) (no n) fall fit = absurd (n fit)
  height_is (no n) f fall fit = absurd (n fall)

dec_falling : (rk : Rank) (ps : List ℕ) (rs : List Eq) → Dec (Falling rk ps rs)
dec_falling rk ps rs = dec_each (FallsTo rk ps)
    (λ r. dec_both (dec_greater rk r.left r.right) (dec_fits ps r.right)) rs

pub weighted : (Term → ℕ) → Book → Term → ℕ
weighted weight b t = let rk = rank b.ranks in
    height_if rk b.parts b.rules weight t (dec_falling rk b.parts b.rules) (dec_fits b.parts t)

pub weighted_falls : (weight : Term → ℕ) (b : Book) → Fine b → AllDown (rank b.ranks) b.rules →
    (t u : Term) → Fits b.parts t → Step b.rules t u → weight u + weighted weight b u < weighted weight b t
unfolding weighted
weighted_falls weight b fine down t u f h =
    let rk = rank b.ranks in
    let ps = b.parts in
    let rs = b.rules in
    let fall : Falling rk ps rs = falling b fine down in
    let (e, i) = height_is rk ps rs weight t (dec_falling rk ps rs) (dec_fits ps t) fall f in
    let (d, j) = height_is rk ps rs weight u (dec_falling rk ps rs) (dec_fits ps u) fall (step_keeps b fine down h f) in
    rw (i, j) (height_less rs weight (down_letters rk rs down) e d h)

pub height : Book → Term → ℕ
height b t = weighted (λ u. 0) b t

pub height_falls : Falls height
unfolding height
height_falls b fine down t u f h = omega (arith, weighted_falls (λ u. 0) b fine down t u f h)
