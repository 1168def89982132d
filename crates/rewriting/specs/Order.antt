-- The lexicographic path order, by a precedence of signs.
use Rattle.std.specs.Prelude.{◌≡◌, List, [], ◌∷◌, ℕ, zero, suc, ◌<◌}
use Rattle.std.proofs.Math.Option.{some}
use Rattle.rewriting.specs.Terms.{nth, Term, sign, Terms, none1, and1, Fits}
use Rattle.rewriting.specs.Rules.{Eq}

-- the precedence: the higher a sign's rank, the greater
abbrev pub Rank : Type 0
Rank = ℕ → ℕ

abbrev pub rank : List ℕ → Rank
rank [] f = 0
rank (r ∷ rs) zero = r
rank (r ∷ rs) (suc f) = rank rs f

-- greater: by a part that is the other or is greater; or by a sign of higher rank, if it is greater than each of the other's
-- parts; or with the same sign by the first parts that differ, if it is greater than each of the other's parts
mutual
  pub data Greater (rk : Rank) : Term → Term → Type 0 where
    by_part : {f : ℕ} {ts : Terms} {u : Term} → SomeAtLeast rk ts u → Greater rk (sign f ts) u
    by_sign : {f g : ℕ} {ts us : Terms} → rk g < rk f → AllLess rk (sign f ts) us → Greater rk (sign f ts) (sign g us)
    by_order : {f : ℕ} {ts us : Terms} → FirstGreater rk ts us → AllLess rk (sign f ts) us → Greater rk (sign f ts) (sign f us)

  -- one of the parts is the other term, or is greater
  pub data SomeAtLeast (rk : Rank) : Terms → Term → Type 0 where
    this_is : {t : Term} {ts : Terms} → SomeAtLeast rk (and1 t ts) t
    this_more : {t u : Term} {ts : Terms} → Greater rk t u → SomeAtLeast rk (and1 t ts) u
    later : {t u : Term} {ts : Terms} → SomeAtLeast rk ts u → SomeAtLeast rk (and1 t ts) u

  -- greater than each of the other's parts
  pub data AllLess (rk : Rank) : Term → Terms → Type 0 where
    none_there : {t : Term} → AllLess rk t none1
    this_less : {t u : Term} {us : Terms} → Greater rk t u → AllLess rk t us → AllLess rk t (and1 u us)

  -- of the first parts that differ, the first's is greater
  pub data FirstGreater (rk : Rank) : Terms → Terms → Type 0 where
    here : {t u : Term} {ts us : Terms} → Greater rk t u → FirstGreater rk (and1 t ts) (and1 u us)
    further : {t : Term} {ts us : Terms} → FirstGreater rk ts us → FirstGreater rk (and1 t ts) (and1 t us)

-- each rule goes down
abbrev pub AllDown : Rank → List Eq → Type 0
AllDown rk rs = (i : ℕ) (r : Eq) → nth rs i ≡ some r → Greater rk r.left r.right

-- no endless way down from t among terms over the signature ps (t is accessible in the order)
pub data Grounded (rk : Rank) (ps : List ℕ) : Term → Type 0 where
  grounded : {t : Term} → ((u : Term) → Fits ps u → Greater rk t u → Grounded rk ps u) → Grounded rk ps t
