-- No endless way down in the path order: by the parts, then by the sign's rank, then by the lists of parts.
use mathlib.Core.Path.{◌≡◌, refl, ◌∙◌, subst}
use mathlib.Core.List.{List}
use mathlib.Core.WellFounded.{Acc}
use Prim.Native.Nat.{ℕ, zero, suc, ◌<◌}
use lib.WfN.{lt-wf_rel}
use native.Mathlib.Omega.{arith}
use Rattle.rewriting.specs.Terms.{Term, letter, sign, Terms, none1, and1, count, AllOver, AnyLetter, Fits}
use Rattle.rewriting.specs.Order.{Rank, Greater, by_part, by_sign, by_order, SomeAtLeast, this_is, this_more, later, Grounded, grounded}
use Rattle.rewriting.specs.Order.{AllLess, none_there, this_less, FirstGreater, here, further}
use Rattle.rewriting.specs.Theorems.{OrderEnds}

module _ (rk : Rank) (ps : List ℕ) where
  abbrev Fit : Terms → Type 0
  Fit ts = AllOver AnyLetter ps ts

  abbrev AllGrounded : Terms → Type 0
  AllGrounded none1 = Unit {0}
  AllGrounded (and1 t ts) = Grounded rk ps t × AllGrounded ts

  part_grounded : {ts : Terms} {u : Term} → SomeAtLeast rk ts u → AllGrounded ts → Fits ps u → Grounded rk ps u
  part_grounded this_is gs f = gs.0
  part_grounded (this_more {u = u} g) gs f = less gs.0 u f g
    where
      less : {t : Term} → Grounded rk ps t → (v : Term) → Fits ps v → Greater rk t v → Grounded rk ps v
      less (grounded h) v f g = h v f g
  part_grounded (later p) gs f = part_grounded p gs.1 f

  -- terms with grounded parts are grounded: with a lower sign than f; with the sign f and lesser parts than ts
  abbrev LowerGround : ℕ → Type 0
  LowerGround f = (g : ℕ) (us : Terms) → rk g < rk f → Fits ps (sign g us) → AllGrounded us → Grounded rk ps (sign g us)

  abbrev LesserGround : ℕ → Terms → Type 0
  LesserGround f ts = (us : Terms) → FirstGreater rk ts us → Fits ps (sign f us) → AllGrounded us → Grounded rk ps (sign f us)

  -- then all that is less is grounded
  abbrev Ready : Term → Type 0
  Ready (letter x) = Unit {0}
  Ready (sign f ts) = AllGrounded ts × LowerGround f × LesserGround f ts

  mutual
    less_grounded : {t u : Term} → Greater rk t u → Ready t → Fits ps u → Grounded rk ps u
    less_grounded (by_part p) r f = part_grounded p r.0 f
    less_grounded (by_sign {g = g} {us = us} l a) r f = r.1 g us l f (all_less_grounded a r f.1)
    less_grounded (by_order {us = us} o a) r f = r.2 us o f (all_less_grounded a r f.1)

    all_less_grounded : {t : Term} {us : Terms} → AllLess rk t us → Ready t → Fit us → AllGrounded us
    all_less_grounded none_there r f = tt
    all_less_grounded (this_less g a) r f = (less_grounded g r f.0, all_less_grounded a r f.1)

  -- no endless way down among lists of n grounded terms, by the first that differ
  data ListsGround (n : ℕ) : Terms → Type 0 where
    lists_ground : {ts : Terms} →
        ((us : Terms) → count us ≡ n → Fit us → AllGrounded us → FirstGreater rk ts us → ListsGround n us) → ListsGround n ts

  -- one more term in front: by it, then by the rest
  abbrev FrontGround : ℕ → Term → Type 0
  FrontGround n t = (ts : Terms) → count ts ≡ n → Fit ts → AllGrounded ts → ListsGround (suc n) (and1 t ts)

  in_rest : (n : ℕ) (t : Term) → ((u : Term) → Fits ps u → Greater rk t u → FrontGround n u) →
      {ts : Terms} → ListsGround n ts → ListsGround (suc n) (and1 t ts)
  in_rest n t lesser (lists_ground {ts = ts} h) =
      lists_ground λ us c f gs l. next l c f gs (λ vs d k ks m. in_rest n t lesser (h vs d k ks m))
    where
      next : {us : Terms} → FirstGreater rk (and1 t ts) us → count us ≡ suc n → Fit us → AllGrounded us →
          ((vs : Terms) → count vs ≡ n → Fit vs → AllGrounded vs → FirstGreater rk ts vs → ListsGround (suc n) (and1 t vs)) →
          ListsGround (suc n) us
      next (here {u = u} {us = us} g) c f gs k = lesser u f.0 g us (omega arith) f.1 gs.1
      next (further {us = us} l) c f gs k = k us (omega arith) f.1 gs.1 l

  in_first : (n : ℕ) {t : Term} → Grounded rk ps t → ((us : Terms) → count us ≡ n → Fit us → AllGrounded us → ListsGround n us) →
      FrontGround n t
  in_first n (grounded {t = t} h) all ts c f gs = in_rest n t (λ u fu g us d k ks. in_first n (h u fu g) all us d k ks) (all ts c f gs)

  all_lists : (n : ℕ) (ts : Terms) → count ts ≡ n → Fit ts → AllGrounded ts → ListsGround n ts
  all_lists n none1 c f gs = lists_ground λ us d k ks l. elim l [ ]
  all_lists zero (and1 t ts) c f gs = absurd (omega arith)
  all_lists (suc n) (and1 t ts) c f gs = in_first n gs.0 (all_lists n) ts (omega arith) f.1 gs.1

  same_count : (f : ℕ) (ts us : Terms) → Fits ps (sign f ts) → Fits ps (sign f us) → count us ≡ count ts
  same_count f ts us h k = let a = h.0 in let b = k.0 in cc

  -- a sign with grounded parts
  by_parts : (f n : ℕ) → LowerGround f → {ts : Terms} → ListsGround n ts → count ts ≡ n → Fits ps (sign f ts) → AllGrounded ts →
      Grounded rk ps (sign f ts)
  by_parts f n lower (lists_ground {ts = ts} h) c ft gs =
      let lesser : LesserGround f ts = λ us l k ks.
      (let d : count us ≡ n = same_count f ts us ft k ∙ c in by_parts f n lower (h us d k.1 ks l) d k ks) in
      grounded λ u fu g. less_grounded g (gs, lower, lesser) fu

  by_rank : {r : ℕ} → Acc ◌<◌ r → (f : ℕ) → rk f ≡ r → (ts : Terms) → Fits ps (sign f ts) → AllGrounded ts → Grounded rk ps (sign f ts)
  by_rank (Acc.intro r h) f e ts ft gs =
      by_parts f (count ts) (λ g us l fu ks. by_rank (h (rk g) (subst (λ (k : ℕ). rk g < k) e l)) g refl us fu ks)
      (all_lists (count ts) ts refl ft.1 gs) refl ft gs

  mutual
    ground : (t : Term) → Fits ps t → Grounded rk ps t
    ground (letter x) f = grounded λ u k g. elim g [ ]
    ground (sign f ts) ft = by_rank (lt-wf_rel.wf.apply (rk f)) f refl ts ft (ground_all ts ft.1)

    ground_all : (ts : Terms) → Fit ts → AllGrounded ts
    ground_all none1 f = tt
    ground_all (and1 t ts) f = (ground t f.0, ground_all ts f.1)

pub order_ends_lem : OrderEnds
order_ends_lem rk ps t f = ground rk ps t f
