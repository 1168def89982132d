-- Rules that go down, over a signature: steps stay over it, and none are endless.
use mathlib.Core.Path.{◌∙◌, ap}
use mathlib.Core.List.{List}
use mathlib.Core.Option.{some}
use Prim.Native.Nat.{ℕ}
use Rattle.rewriting.specs.Terms.{Term, Terms, AllOver, SmallLetter, AnyLetter, Fits}
use Rattle.rewriting.specs.Rules.{Eq, Step, at_top, below, Steps1, in_first, in_rest, Steps, stay, go, Ends, ends}
use Rattle.rewriting.specs.Order.{Rank, rank, Greater, AllDown, Grounded, grounded}
use Rattle.rewriting.specs.Books.{Book, Fine}
use Rattle.rewriting.specs.Theorems.{DownEnds}
use Rattle.rewriting.proofs.Choosing.{Each}
use Rattle.rewriting.proofs.Stepping.{NoNewLetters, steps1_count}
use Rattle.rewriting.proofs.Signature.{over_put, put_over, over_fits}
use Rattle.rewriting.proofs.Ordering.{greater_letters, step_down}
use Rattle.rewriting.proofs.Grounding.{order_ends_lem}

-- a rule goes down to a term over the signature; each does
abbrev pub FallsTo : Rank → List ℕ → Eq → Type 0
FallsTo rk ps r = Greater rk r.left r.right × Fits ps r.right

abbrev pub Falling : Rank → List ℕ → List Eq → Type 0
Falling rk ps rs = Each (FallsTo rk ps) rs

pub falling : (b : Book) → Fine b → AllDown (rank b.ranks) b.rules → Falling (rank b.ranks) b.parts b.rules
falling b fine down i r e = (down i r e, over_fits b.parts SmallLetter r.right (fine.rules i r e).right)

pub down_letters : (rk : Rank) (rs : List Eq) → AllDown rk rs → NoNewLetters rs
down_letters rk rs down i r e x j = greater_letters rk (down i r e) x j

module _ (rk : Rank) (ps : List ℕ) (rs : List Eq) (fall : Falling rk ps rs) where
  goes_down : AllDown rk rs
  goes_down i r e = (fall i r e).0

  mutual
    pub step_fits : {t u : Term} → Step rs t u → Fits ps t → Fits ps u
    step_fits (at_top i r s e) f = over_put ps AnyLetter AnyLetter s r.right (fall i r e).1
        (λ x j. put_over ps AnyLetter s (down_letters rk rs goes_down i r e x j) f)
    step_fits (below h) f = (f.0 ∙ ap some (steps1_count h), steps1_fit h f.1)

    steps1_fit : {ts us : Terms} → Steps1 rs ts us → AllOver AnyLetter ps ts → AllOver AnyLetter ps us
    steps1_fit (in_first h) f = (step_fits h f.0, f.1)
    steps1_fit (in_rest h) f = (f.0, steps1_fit h f.1)

  grounded_ends : {t : Term} → Grounded rk ps t → Fits ps t → Ends rs t
  grounded_ends (grounded h) f =
      ends λ u k. grounded_ends (h u (step_fits k f) (step_down rk rs goes_down k)) (step_fits k f)

  pub falling_ends : (t : Term) → Fits ps t → Ends rs t
  falling_ends t f = grounded_ends (order_ends_lem rk ps t f) f

-- of a book
pub step_keeps : (b : Book) → Fine b → AllDown (rank b.ranks) b.rules →
    {t u : Term} → Step b.rules t u → Fits b.parts t → Fits b.parts u
step_keeps b fine down h f = step_fits (rank b.ranks) b.parts b.rules (falling b fine down) h f

pub steps_keep : (b : Book) → Fine b → AllDown (rank b.ranks) b.rules →
    {t u : Term} → Steps b.rules t u → Fits b.parts t → Fits b.parts u
steps_keep b fine down stay f = f
steps_keep b fine down (go h hs) f = steps_keep b fine down hs (step_keeps b fine down h f)

pub down_ends : DownEnds
down_ends b fine down t f = falling_ends (rank b.ranks) b.parts b.rules (falling b fine down) t f
