-- The critical pair theorem: if at each place where two rules meet both results come together, there is one end.
use mathlib.Core.Path.{◌≡◌, refl, sym, ◌∙◌, ap, subst, subst₂}
use mathlib.Core.List.{List}
use mathlib.Core.Option.{some}
use Prim.Native.Nat.{ℕ, ◌+◌, ◌-◌, ◌<◌}
use native.Mathlib.Omega.{arith}
use native.Mathlib.Decide.{dec_lt}
use Rattle.rewriting.specs.Terms.{nth, Term, letter, sign, Terms, and1, put, In, SmallLetter}
use Rattle.rewriting.specs.Rules.{Eq, Step, at_top, below, Steps1, in_first, in_rest, stay, go, Meet, Part, renamed}
use Rattle.rewriting.specs.Overlaps.{fill, Least, Peak, first_result, second_result, OverlapsMeet}
use Rattle.rewriting.specs.Theorems.{OverlapsTell, PeaksTell}
use Rattle.rewriting.proofs.Choosing.{pick, pick_yes, pick_no, Each}
use Rattle.rewriting.proofs.Replacing.{put_agree, put_through, in_place, fill_agree, put_fill}
use Rattle.rewriting.proofs.Stepping.{trans, meet_put, meet_swap, steps_under, stay_in, go_in, steps_first, steps_rest}
use Rattle.rewriting.proofs.Stepping.{Meets, meet_below, fill_step, renamed_step, Top, FromSign, by_top, by_part, from_sign}
use Rattle.rewriting.proofs.Signature.{over_letters}
use Rattle.rewriting.proofs.Newman.{newman}
use Rattle.rewriting.proofs.Terminating.{down_ends}
use Rattle.rewriting.proofs.Unifying.{least}
use Rattle.rewriting.proofs.Splitting.{Split, in_letter, at_part, split}

-- the two results of rules p and q with s put, q at a place in p's left side
abbrev pub ResultsMeet : List Eq → (p q : Eq) {n t : Term} → Part n t → (ℕ → Term) → Type 0
ResultsMeet rs p q place s = Meet rs (put s p.right) (fill place s (put s (renamed q.right)))

-- if they come together, they do with what is had from s
pub results_through : {rs : List Eq} (p q : Eq) {n t : Term} (place : Part n t) (k s r : ℕ → Term) → ((x : ℕ) → r x ≡ put k (s x)) →
    ResultsMeet rs p q place s → ResultsMeet rs p q place r
results_through {rs} p q place k s r h m = subst₂ (Meet rs) (put_through k s r h p.right) filled (meet_put k m)
  where
    w : Term
    w = put s (renamed q.right)

    filled : put k (fill place s w) ≡ fill place r (put r (renamed q.right))
    filled = put_fill place k s w ∙ (fill_agree place (λ x. put k (s x)) r (put k w) (λ x i. sym (h x))
        ∙ ap (fill place r) (put_through k s r h (renamed q.right)))

abbrev pub peak_of : {rs : List Eq} (i : ℕ) (p : Eq) → nth rs i ≡ some p → (j : ℕ) (q : Eq) → nth rs j ≡ some q →
    (f : ℕ) (vs : Terms) → Part (sign f vs) p.left → (l : Least (sign f vs) (renamed q.left)) → Peak rs (put l.s p.left)
peak_of i p is_p j q is_q f vs stands l = record {
  i = i;
  j = j;
  p = p;
  q = q;
  is_p = is_p;
  is_q = is_q;
  f = f;
  vs = vs;
  stands = stands;
  s = l.s;
  meet = l.one;
  most = λ r e. (r, l.most r e);
  is = refl;
}

-- both results are had by a step
pub overlap_step : {rs : List Eq} {n t : Term} (place : Part n t) (s : ℕ → Term) (j : ℕ) (q : Eq) → nth rs j ≡ some q →
    put s n ≡ put s (renamed q.left) → Step rs (put s t) (fill place s (put s (renamed q.right)))
overlap_step {rs} place s j q h e = let w = put s (renamed q.right) in
    fill_step place s w (subst (λ (v : Term). Step rs v w) (sym e) (renamed_step s j q h))

pub first_step : {rs : List Eq} {t : Term} (k : Peak rs t) → Step rs t (first_result k)
first_step k = rw k.is (at_top k.i k.p k.s k.is_p)

pub second_step : {rs : List Eq} {t : Term} (k : Peak rs t) → Step rs t (second_result k)
second_step k = rw k.is (overlap_step k.stands k.s k.j k.q k.is_q k.meet)

-- two replacements as one, the second's letters renamed
merge : (ℕ → Term) → (ℕ → Term) → ℕ → Term
merge s r x = pick (dec_lt x 16) (s x) (r (x - 16))

merge_small : (s r : ℕ → Term) (x : ℕ) → x < 16 → merge s r x ≡ s x
unfolding merge
merge_small s r x h = pick_yes (dec_lt x 16) (s x) (r (x - 16)) h

merge_large : (s r : ℕ → Term) (x : ℕ) → merge s r (x + 16) ≡ r x
unfolding merge
merge_large s r x = pick_no (dec_lt (x + 16) 16) (s (x + 16)) (r (x + 16 - 16)) (λ h. omega arith) ∙ ap r (omega arith)

abbrev Small : Term → Type 0
Small t = (x : ℕ) → In x t → x < 16

merge_put : (s r : ℕ → Term) (t : Term) → Small t → put (merge s r) t ≡ put s t
merge_put s r t h = put_agree (merge s r) s t (λ x i. merge_small s r x (h x i))

merge_renamed : (s r : ℕ → Term) (t : Term) → put (merge s r) (renamed t) ≡ put r t
merge_renamed s r t = put_through (merge s r) (λ x. letter (x + 16)) r (λ x. sym (merge_large s r x)) t

module _ (rs : List Eq) (small : Each (λ (r : Eq). Small r.left × Small r.right) rs) (overlaps : OverlapsMeet rs) where
  -- a rule at the top and a rule at a part
  at_overlap : (i : ℕ) (p : Eq) (s : ℕ → Term) → nth rs i ≡ some p → {f : ℕ} {vs : Terms} {w : Term} (place : Part (sign f vs) p.left) →
      Top rs (put s (sign f vs)) w → Meet rs (put s p.right) (fill place s w)
  at_overlap i p s is_p {f} {vs} {w} place a = subst₂ (Meet rs) (merge_put s a.s p.right (small i p is_p).1) filled
      (results_through p a.r place m l.s m (l.most m one)
      (overlaps (put l.s p.left) (peak_of i p is_p a.i a.r a.has f vs place l)))
    where
      m : ℕ → Term
      m = merge s a.s

      one : put m (sign f vs) ≡ put m (renamed a.r.left)
      one = merge_put s a.s (sign f vs) (λ x h. (small i p is_p).0 x (in_place x place h))
          ∙ (a.from ∙ sym (merge_renamed s a.s a.r.left))

      l : Least (sign f vs) (renamed a.r.left)
      l = least (sign f vs) (renamed a.r.left) m one

      filled : fill place m (put m (renamed a.r.right)) ≡ fill place s w
      filled = fill_agree place m s (put m (renamed a.r.right)) (λ x h. merge_small s a.s x ((small i p is_p).0 x h))
          ∙ ap (fill place s) (merge_renamed s a.s a.r.right ∙ sym a.to)

  -- a rule at the top and any step
  at_split : (i : ℕ) (p : Eq) (s : ℕ → Term) (v : Term) → nth rs i ≡ some p → Split rs s p.left v → Meet rs (put s p.right) v
  at_split i p s v is_p (in_letter r h k) =
      (put r p.right, steps_under s r h p.right, trans k (go (at_top i p r is_p) stay))
  at_split i p s v is_p (at_part place a e) = rw e (at_overlap i p s is_p place a)

  in_parts : (f : ℕ) (ts us : Terms) (v : Term) → Steps1 rs ts us → FromSign rs f ts v →
      ((vs : Terms) → Steps1 rs ts vs → Meets rs us vs) → Meet rs (sign f us) v
  in_parts f ts us v h (by_top a) k = rw a.to (meet_swap
      (at_split a.i a.r a.s (sign f us) a.has (split a.r.left a.s (sign f ts) (sign f us) (below h) a.from)))
  in_parts f ts us v h (by_part {us = vs} j) k = meet_below f (k vs j)

  -- any two steps from one term
  mutual
    local : {t u : Term} → Step rs t u → (v : Term) → Step rs t v → Meet rs u v
    local (at_top i p s is_p) v k = at_split i p s v is_p (split p.left s (put s p.left) v k refl)
    local (below {f = f} {ts = ts} {us = us} h) v k = in_parts f ts us v h (from_sign k f ts refl) (locals h)

    locals : {ts us : Terms} → Steps1 rs ts us → (vs : Terms) → Steps1 rs ts vs → Meets rs us vs
    locals (in_first {ts = ts} h) vs (in_first {u = v} k) =
        let m = local h v k in (and1 m.0 ts, steps_first ts m.1, steps_first ts m.2)
    locals (in_first {u = u} h) vs (in_rest {us = us} k) = (and1 u us, go_in (in_rest k) stay_in, go_in (in_first h) stay_in)
    locals (in_rest {us = us} h) vs (in_first {u = u} k) = (and1 u us, go_in (in_first k) stay_in, go_in (in_rest h) stay_in)
    locals (in_rest {t = t} h) vs (in_rest {us = ws} k) =
        let m = locals h ws k in (and1 t m.0, steps_rest t m.1, steps_rest t m.2)

pub overlaps_tell_lem : OverlapsTell
overlaps_tell_lem b fine down overlaps t u v f hu hv =
    newman b.rules (λ w x y h k. local b.rules small overlaps h y k) (down_ends b fine down t f) hu hv
  where
    small : Each (λ (r : Eq). Small r.left × Small r.right) b.rules
    small i r e = (
      over_letters b.parts SmallLetter r.left (fine.rules i r e).left,
      over_letters b.parts SmallLetter r.right (fine.rules i r e).right,
    )

pub peaks_tell_lem : PeaksTell
peaks_tell_lem b fine down peaks =
    overlaps_tell_lem b fine down (λ t k. peaks t (first_result k) (second_result k) k (first_step k) (second_step k))
