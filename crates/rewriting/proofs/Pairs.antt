-- One end is told by finitely many pairs: for each two rules and each part, the results with the least replacement.
use mathlib.Core.Path.{◌≡◌, subst}
use mathlib.Core.Logic.{◌⊎◌, inl, inr}
use mathlib.Core.Option.{some}
use Prim.Native.Nat.{ℕ, ◌+◌}
use Rattle.rewriting.specs.Terms.{nth, Term, letter, sign, Terms, none1, and1, put, SmallLetter, AnyLetter, Fits}
use Rattle.rewriting.specs.Rules.{Eq, Step, at_top, Steps, go, Meet, renamed}
use Rattle.rewriting.specs.Rules.{Part, itself, in_part, Parts, in_this, in_later}
use Rattle.rewriting.specs.Order.{rank, AllDown}
use Rattle.rewriting.specs.Overlaps.{fill}
use Rattle.rewriting.specs.Books.{Book, Fine, OneEnd}
use Rattle.rewriting.specs.Theorems.{ToldByPairs}
use Rattle.rewriting.proofs.Choosing.{map_or, both_or, Each, each_or}
use Rattle.rewriting.proofs.Stepping.{Comes}
use Rattle.rewriting.proofs.Signature.{over_put, over_fits, over_part}
use Rattle.rewriting.proofs.Comparing.{dec_term}
use Rattle.rewriting.proofs.Terminating.{step_keeps}
use Rattle.rewriting.proofs.Reducts.{comes}
use Rattle.rewriting.proofs.Settling.{one_done}
use Rattle.rewriting.proofs.Unifying.{Solved, made_one, least_fits}
use Rattle.rewriting.proofs.Peaks.{ResultsMeet, results_through, overlap_step, overlaps_tell_lem}

-- all parts of a term have Q, or else N, if that can be told of each
by_letter : (x : ℕ) (Q : (n : Term) → Part n (letter x) → Type 0) → Q (letter x) itself → (n : Term) (p : Part n (letter x)) → Q n p
by_letter x Q q n itself = q

by_sign : (f : ℕ) (ts : Terms) (Q : (n : Term) → Part n (sign f ts) → Type 0) →
    Q (sign f ts) itself → ((n : Term) (p : Parts n ts) → Q n (in_part p)) → (n : Term) (p : Part n (sign f ts)) → Q n p
by_sign f ts Q q h n itself = q
by_sign f ts Q q h n (in_part p) = h n p

by_and : (t : Term) (ts : Terms) (Q : (n : Term) → Parts n (and1 t ts) → Type 0) →
    ((n : Term) (p : Part n t) → Q n (in_this p)) → ((n : Term) (p : Parts n ts) → Q n (in_later p)) →
    (n : Term) (p : Parts n (and1 t ts)) → Q n p
by_and t ts Q q h n (in_this p) = q n p
by_and t ts Q q h n (in_later p) = h n p

by_none : (Q : (n : Term) → Parts n none1 → Type 0) (n : Term) (p : Parts n none1) → Q n p
by_none Q n p = elim p [ ]

mutual
  parts_or : (t : Term) (Q : (n : Term) → Part n t → Type 0) (N : Type 0) →
      ((n : Term) (p : Part n t) → Q n p ⊎ N) → ((n : Term) (p : Part n t) → Q n p) ⊎ N
  parts_or (letter x) Q N h = map_or (by_letter x Q) (h (letter x) itself)
  parts_or (sign f ts) Q N h =
      both_or (by_sign f ts Q) (h (sign f ts) itself) (all_parts_or ts (λ n p. Q n (in_part p)) N (λ n p. h n (in_part p)))

  all_parts_or : (ts : Terms) (Q : (n : Term) → Parts n ts → Type 0) (N : Type 0) →
      ((n : Term) (p : Parts n ts) → Q n p ⊎ N) → ((n : Term) (p : Parts n ts) → Q n p) ⊎ N
  all_parts_or none1 Q N h = inl (by_none Q)
  all_parts_or (and1 t ts) Q N h = both_or (by_and t ts Q)
      (parts_or t (λ n p. Q n (in_this p)) N (λ n p. h n (in_this p)))
      (all_parts_or ts (λ n p. Q n (in_later p)) N (λ n p. h n (in_later p)))

module _ (b : Book) (fine : Fine b) (down : AllDown (rank b.ranks) b.rules) where
  -- what two steps lead to comes together, or there is more than one end
  steps_told : (t u v : Term) → Fits b.parts t → Step b.rules t u → Step b.rules t v → Meet b.rules u v ⊎ (OneEnd b → ⊥)
  steps_told t u v f h k = told (comes b fine down u (step_keeps b fine down h f)) (comes b fine down v (step_keeps b fine down k f))
    where
      told : Comes b.rules u → Comes b.rules v → Meet b.rules u v ⊎ (OneEnd b → ⊥)
      told m n = elim (dec_term m.0 n.0) [
        | yes e ↦ inl (n.0, subst (Steps b.rules u) e m.1, n.1)
        | no differ ↦ inr (λ one. differ (one_done b one t m.0 n.0 f (go h m.1) m.2 (go k n.1) n.2))
      ]

  -- whatever makes the part and the other left side one, the two results come together
  abbrev Overlap : (p q : Eq) (n : Term) → Part n p.left → Type 0
  Overlap p q n place = (s : ℕ → Term) → put s n ≡ put s (renamed q.left) → ResultsMeet b.rules p q place s

  overlap_told : (i : ℕ) (p : Eq) → nth b.rules i ≡ some p → (j : ℕ) (q : Eq) → nth b.rules j ≡ some q →
      (n : Term) (place : Part n p.left) → Overlap p q n place ⊎ (OneEnd b → ⊥)
  overlap_told i p is_p j q is_q n place = told (made_one n (renamed q.left))
    where
      fit : (i : ℕ) (r : Eq) → nth b.rules i ≡ some r → Fits b.parts r.left
      fit i r e = over_fits b.parts SmallLetter r.left (fine.rules i r e).left

      told : Solved n (renamed q.left) → Overlap p q n place ⊎ (OneEnd b → ⊥)
      told (inr never) = inl (λ s e. absurd (never s e))
      told (inl l) = map_or (λ m s e. results_through p q place s l.s s (l.most s e) m)
          (steps_told (put l.s p.left) (put l.s p.right) (fill place l.s (put l.s (renamed q.right)))
          (over_put b.parts AnyLetter AnyLetter l.s p.left (fit i p is_p) (λ x k. fits x))
          (at_top i p l.s is_p) (overlap_step place l.s j q is_q l.one))
        where
          fits : (x : ℕ) → Fits b.parts (l.s x)
          fits = least_fits b.parts n (renamed q.left) l (over_part b.parts AnyLetter place (fit i p is_p))
              (over_put b.parts AnyLetter AnyLetter (λ x. letter (x + 16)) q.left (fit j q is_q) (λ x k. tt))

  abbrev Overlaps : Eq → Eq → Type 0
  Overlaps p q = (n : Term) (place : Part n p.left) → Overlap p q n place

  pairs_told : Each (λ (p : Eq). Each (Overlaps p) b.rules) b.rules ⊎ (OneEnd b → ⊥)
  pairs_told = each_or (λ (p : Eq). Each (Overlaps p) b.rules) (OneEnd b → ⊥) b.rules
      (λ i p is_p. each_or (Overlaps p) (OneEnd b → ⊥) b.rules
      (λ j q is_q. parts_or p.left (Overlap p q) (OneEnd b → ⊥) (overlap_told i p is_p j q is_q)))

pub told_by_pairs_lem : ToldByPairs
told_by_pairs_lem b fine down = map_or (λ all. overlaps_tell_lem b fine down (λ t k.
    all k.i k.p k.is_p k.j k.q k.is_q (sign k.f k.vs) k.stands k.s k.meet))
    (pairs_told b fine down)
