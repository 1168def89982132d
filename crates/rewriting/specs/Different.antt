-- How many different parts (subterms) terms have: each is counted once, however often it stands there.
use Rattle.std.specs.Prelude.{◌≡◌, Bool, true, false, ◌&&◌, ◌||◌, cond, List, [], ◌∷◌, ◌++◌, ℕ, zero, suc, ◌<◌, ◌≤◌, eqb, length}
use Rattle.rewriting.specs.Terms.{Term, letter, sign, Terms, none1, and1, size}
use Rattle.rewriting.specs.Rules.{Part}

-- whether two terms are one
abbrev mutual
  pub same_term : Term → Term → Bool
  same_term (letter x) (letter y) = eqb x y
  same_term (letter x) (sign g us) = false
  same_term (sign f ts) (letter y) = false
  same_term (sign f ts) (sign g us) = eqb f g && same_terms ts us

  pub same_terms : Terms → Terms → Bool
  same_terms none1 none1 = true
  same_terms none1 (and1 u us) = false
  same_terms (and1 t ts) none1 = false
  same_terms (and1 t ts) (and1 u us) = same_term t u && same_terms ts us

-- the parts of a term, itself first, as often as they stand there; of several terms
abbrev mutual
  pub subterms : Term → List Term
  subterms (letter x) = letter x ∷ []
  subterms (sign f ts) = sign f ts ∷ inner_subterms ts

  pub inner_subterms : Terms → List Term
  inner_subterms none1 = []
  inner_subterms (and1 t ts) = subterms t ++ inner_subterms ts

abbrev pub all_subterms : List Term → List Term
all_subterms [] = []
all_subterms (t ∷ ts) = subterms t ++ all_subterms ts

-- whether a term is in a list; the elements of a list, each once
abbrev pub among : Term → List Term → Bool
among u [] = false
among u (t ∷ ts) = same_term u t || among u ts

abbrev pub once : List Term → List Term
once [] = []
once (t ∷ ts) = cond (among t ts) (once ts) (t ∷ once ts)

-- how many different parts several terms have together
abbrev pub different : List Term → ℕ
different ts = length (once (all_subterms ts))

-- v stands in one of the terms
pub data PartOf (v : Term) : List Term → Type 0 where
  of_first : {t : Term} {ts : List Term} → Part v t → PartOf v (t ∷ ts)
  of_later : {t : Term} {ts : List Term} → PartOf v ts → PartOf v (t ∷ ts)

-- g 0, .. g (n - 1) are different from each other
abbrev pub Apart : (ℕ → Term) → ℕ → Type 0
Apart g n = (i j : ℕ) → i < j → j < n → g i ≡ g j → ⊥

-- the list of g 0, .. g (n - 1), the last first
abbrev pub listed : (ℕ → Term) → ℕ → List Term
listed g zero = []
listed g (suc n) = g n ∷ listed g n

-- what the count is: the greatest number of parts that are different from each other; no more than the letters and signs
pub record DifferentCounts : Type 0 where
  pub most : (ts : List Term) (g : ℕ → Term) (n : ℕ) → Apart g n → ((i : ℕ) → i < n → PartOf (g i) ts) → n ≤ different ts
  pub reached : (ts : List Term) → (g : ℕ → Term) × Apart g (different ts) × ((i : ℕ) → i < different ts → PartOf (g i) ts)
  pub in_part : (v t : Term) → Part v t → different (v ∷ []) ≤ different (t ∷ [])
  pub small : (t : Term) → different (t ∷ []) ≤ size t
