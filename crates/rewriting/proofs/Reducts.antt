-- All that one step leads to, as a list; so a term can take a step or is done, and comes to one that is done.
use mathlib.Core.Path.{◌≡◌, refl, ap, subst}
use mathlib.Core.Logic.{◌⊎◌, inl, inr}
use mathlib.Core.List.{List, [], ◌∷◌, ◌++◌, map}
use mathlib.Core.Option.{some}
use Prim.Native.Nat.{ℕ, zero, suc}
use Rattle.rewriting.specs.Terms.{nth, Term, letter, sign, Terms, none1, and1, put, Fits}
use Rattle.rewriting.specs.Rules.{Eq, Step, at_top, below, Steps1, in_first, in_rest, stay, go, Done, Ends, ends}
use Rattle.rewriting.specs.Order.{rank, AllDown}
use Rattle.rewriting.specs.Books.{Book, Fine}
use Rattle.rewriting.proofs.Choosing.{no_some, Each}
use Rattle.rewriting.proofs.Stepping.{Comes, NoNewLetters}
use Rattle.rewriting.proofs.Terminating.{down_letters, down_ends}
use Rattle.rewriting.proofs.Comparing.{dec_term}
use Rattle.rewriting.proofs.Matching.{found, found_put}

-- a stands in a list of things with proofs
pub data Has {A : Type 0} {P : A → Type 0} (a : A) : List ((b : A) × P b) → Type 0 where
  first : {p : (b : A) × P b} {ps : List ((b : A) × P b)} → p.0 ≡ a → Has a (p ∷ ps)
  next : {p : (b : A) × P b} {ps : List ((b : A) × P b)} → Has a ps → Has a (p ∷ ps)

module _ {A : Type 0} {P : A → Type 0} where
  has_left : {a : A} {ps : List ((b : A) × P b)} (qs : List ((b : A) × P b)) → Has {P = P} a ps → Has {P = P} a (ps ++ qs)
  has_left qs (first e) = first e
  has_left qs (next h) = next (has_left qs h)

  has_right : {a : A} (ps : List ((b : A) × P b)) {qs : List ((b : A) × P b)} → Has {P = P} a qs → Has {P = P} a (ps ++ qs)
  has_right [] h = h
  has_right (p ∷ ps) h = next (has_right ps h)

  has_map : {B : Type 0} {Q : B → Type 0} (f : A → B) (g : (a : A) → P a → Q (f a)) {a : A} {ps : List ((b : A) × P b)} →
      Has {P = P} a ps → Has {P = Q} (f a) (map (λ (p : (b : A) × P b). (f p.0, g p.0 p.1)) ps)
  has_map f g (first e) = first (ap f e)
  has_map f g (next h) = next (has_map f g h)

module _ (rs : List Eq) where
  abbrev pub Reduct : Term → Type 0
  Reduct t = (u : Term) × Step rs t u

  abbrev ReductIn : Terms → Type 0
  ReductIn ts = (us : Terms) × Steps1 rs ts us

  abbrev Rule : Eq → Type 0
  Rule r = (i : ℕ) × (nth rs i ≡ some r)

  -- by a rule at the top
  top : (t : Term) (r : Eq) → Rule r → Dec (put (found r.left t) r.left ≡ t) → List (Reduct t)
  top t r i (yes e) = (u, subst (λ (v : Term). Step rs v u) e (at_top i.0 r (found r.left t) i.1)) ∷ []
    where
      u : Term
      u = put (found r.left t) r.right
  top t r i (no n) = []

  tops : (t : Term) (qs : List Eq) → Each Rule qs → List (Reduct t)
  tops t [] k = []
  tops t (q ∷ qs) k = top t q (k 0 q refl) (dec_term (put (found q.left t) q.left) t) ++ tops t qs (λ i r e. k (suc i) r e)

  abbrev at_tops : (t : Term) → List (Reduct t)
  at_tops t = tops t rs (λ i r e. (i, e))

  -- in the parts
  abbrev mutual
    insides : (t : Term) → List (Reduct t)
    insides (letter x) = []
    insides (sign f ts) = map (λ (p : ReductIn ts). (sign f p.0, below p.1)) (insides_all ts)

    insides_all : (ts : Terms) → List (ReductIn ts)
    insides_all none1 = []
    insides_all (and1 t ts) = map (λ (p : Reduct t). (and1 p.0 ts, in_first p.1)) (at_tops t ++ insides t)
        ++ map (λ (p : ReductIn ts). (and1 t p.0, in_rest p.1)) (insides_all ts)

  pub reducts : (t : Term) → List (Reduct t)
  reducts t = at_tops t ++ insides t

  -- each step is among them
  module _ (keep : NoNewLetters rs) where
    has_top : (s : ℕ → Term) (r : Eq) (i : Rule r) (d : Dec (put (found r.left (put s r.left)) r.left ≡ put s r.left)) →
        Has (put s r.right) (top (put s r.left) r i d)
    unfolding top
    has_top s r i (yes e) = first (found_put s r.left r.right (keep i.0 r i.1))
    has_top s r i (no n) = absurd (n (found_put s r.left r.left (λ x j. j)))

    has_tops : (s : ℕ → Term) (r : Eq) (qs : List Eq) (k : Each Rule qs) (i : ℕ) → nth qs i ≡ some r →
        Has (put s r.right) (tops (put s r.left) qs k)
    unfolding tops
    has_tops s r [] k i e = absurd (no_some e)
    has_tops s r (q ∷ qs) k zero e =
        let d : q ≡ r = cc in
        subst (λ (p : Eq). Has (put s p.right) (tops (put s p.left) (q ∷ qs) k)) d
        (has_left _ (has_top s q (k 0 q refl) (dec_term (put (found q.left (put s q.left)) q.left) (put s q.left))))
    has_tops s r (q ∷ qs) k (suc i) e = has_right _ (has_tops s r qs (λ j p d. k (suc j) p d) i e)

    mutual
      unfolding reducts

      pub has_step : {t u : Term} → Step rs t u → Has u (reducts t)
      has_step (at_top i r s e) = has_left _ (has_tops s r rs (λ j q d. (j, d)) i e)
      has_step (below {f = f} {ts = ts} h) = has_right (at_tops (sign f ts)) (has_map (sign f) (λ us k. below k) (has_steps h))

      has_steps : {ts us : Terms} → Steps1 rs ts us → Has us (insides_all ts)
      has_steps (in_first {ts = ts} h) = has_left _ (has_map (λ u. and1 u ts) (λ u k. in_first k) (has_step h))
      has_steps (in_rest {t = t} h) = has_right _ (has_map (and1 t) (λ us k. in_rest k) (has_steps h))

    pub step_or_done : (t : Term) → Reduct t ⊎ Done rs t
    step_or_done t = told (reducts t) (λ u h. has_step h)
      where
        told : (ps : List (Reduct t)) → ((u : Term) → Step rs t u → Has u ps) → Reduct t ⊎ Done rs t
        told [] h = inr (λ u k. elim (h u k) [ ])
        told (p ∷ ps) h = inl p

    ends_come : {t : Term} → Ends rs t → Comes rs t
    ends_come {t} (ends f) = elim (step_or_done t) [
      | inl p ↦ let n = ends_come (f p.0 p.1) in (n.0, go p.1 n.1, n.2)
      | inr d ↦ (t, stay, d)
    ]

pub comes : (b : Book) → Fine b → AllDown (rank b.ranks) b.rules → (t : Term) → Fits b.parts t → Comes b.rules t
comes b fine down t f = ends_come b.rules (down_letters (rank b.ranks) b.rules down) (down_ends b fine down t f)
