-- An overlap is resolved exactly if it is for whatever makes the part and the left side one, and one end is told by all of them.
use Rattle.std.proofs.Common.{◌≡◌, ℕ, ◌+◌, List, refl, sym, subst, inl, inr}
use mathlib.Core.Option.{some}
use Rattle.rewriting.specs.Terms.{nth, Term, letter, sign, put, SmallLetter, AnyLetter, Fits}
use Rattle.rewriting.specs.Rules.{Eq, at_top, stay, go, Meet, renamed}
use Rattle.rewriting.specs.Overlaps.{Least, OverlapsMeet}
use Rattle.rewriting.specs.Books.{Book, Fine, OneEnd}
use Rattle.rewriting.proofs.Signature.{over_put, over_fits, over_part}
use Rattle.rewriting.proofs.Unifying.{made_one, least_fits}
use Rattle.rewriting.proofs.Peaks.{ResultsMeet, overlap_step, overlaps_tell_lem}
use Rattle.critical_pairs.specs.OverlapList.{Overlap, top_term, first_of, second_of}
use Rattle.critical_pairs.specs.OverlapList.{Resolved, AllResolved}
use Rattle.critical_pairs.specs.Theorems.{FinitelyManyPairs, ResolvedByAny}
use Rattle.critical_pairs.proofs.OverlapList.{overlaps_has, overlaps_only}
use Rattle.critical_pairs.proofs.Positions.{AnyPart, one_place}
use Rattle.critical_pairs.proofs.Renaming.{least_is_general, meet_if_general_meets}

-- whatever makes the part and the left side one, both results come together; or it is enough that they do for the least
pub meet_if_resolved : (rs : List Eq) (o : Overlap) → Resolved rs o →
    (r : ℕ → Term) → put r (sign o.at.f o.at.vs) ≡ put r (renamed o.q.left) → Meet rs (first_of o r) (second_of o r)
meet_if_resolved rs o (inl never) r e = absurd (never r e)
meet_if_resolved rs o (inr (s, general, m)) r e = meet_if_general_meets rs o s r general e m

pub resolved_if_least_meets : (rs : List Eq) (o : Overlap) →
    ((l : Least (sign o.at.f o.at.vs) (renamed o.q.left)) → Meet rs (first_of o l.s) (second_of o l.s)) → Resolved rs o
resolved_if_least_meets rs o h = elim (made_one (sign o.at.f o.at.vs) (renamed o.q.left)) [
  | inl l ↦ inr (l.s, least_is_general o l, h l)
  | inr never ↦ inl never
]

-- what is told at one place is told at all that start at its symbol, as that is one place
abbrev MeetsAt : List Eq → (p q : Eq) → AnyPart p.left → Type 0
MeetsAt rs p q place = (s : ℕ → Term) → put s place.0 ≡ put s (renamed q.left) → ResultsMeet rs p q place.1 s

pub resolved_by_any_holds : ResolvedByAny
resolved_by_any_holds rs o = (
  λ h f vs place e. subst (MeetsAt rs o.p o.q) (one_place o.at.stands place (sym e)) (meet_if_resolved rs o h),
  λ h. resolved_if_least_meets rs o (λ l. h o.at.f o.at.vs o.at.stands refl l.s l.one),
)

-- one end, if all of the list are resolved
overlaps_meet_if_resolved : (rs : List Eq) → AllResolved rs → OverlapsMeet rs
overlaps_meet_if_resolved rs h t k = meet_if_resolved rs o (h o (overlaps_has rs k.i k.j k.p k.q k.is_p k.is_q o.at)) k.s k.meet
  where
    o : Overlap
    o = record { i = k.i; j = k.j; p = k.p; q = k.q; at = record { f = k.f; vs = k.vs; stands = k.stands } }

-- and all are resolved if there is one end: both results are had by a step from a term over the signature
module _ (b : Book) (fine : Fine b) where
  pub left_fits : (i : ℕ) (r : Eq) → nth b.rules i ≡ some r → Fits b.parts r.left
  left_fits i r e = over_fits b.parts SmallLetter r.left (fine.rules i r e).left

  pub top_term_fits : (o : Overlap) → Fits b.parts o.p.left → Fits b.parts o.q.left →
      (l : Least (sign o.at.f o.at.vs) (renamed o.q.left)) → Fits b.parts (top_term o l.s)
  top_term_fits o fp fq l = over_put b.parts AnyLetter AnyLetter l.s o.p.left fp (λ x i.
      least_fits b.parts (sign o.at.f o.at.vs) (renamed o.q.left) l (over_part b.parts AnyLetter o.at.stands fp)
      (over_put b.parts AnyLetter AnyLetter (λ y. letter (y + 16)) o.q.left fq (λ y k. tt)) x)

  all_resolved_if_one_end : OneEnd b → AllResolved b.rules
  all_resolved_if_one_end one o m = let (is_p, is_q) = overlaps_only b.rules o m in
      resolved_if_least_meets b.rules o (λ l.
      one (top_term o l.s) (first_of o l.s) (second_of o l.s)
      (top_term_fits o (left_fits o.i o.p is_p) (left_fits o.j o.q is_q) l)
      (go (at_top o.i o.p l.s is_p) stay) (go (overlap_step o.at.stands l.s o.j o.q is_q l.one) stay))

pub finitely_many_pairs_tell : FinitelyManyPairs
finitely_many_pairs_tell b fine down = (
  all_resolved_if_one_end b fine,
  λ h. overlaps_tell_lem b fine down (overlaps_meet_if_resolved b.rules h),
)
