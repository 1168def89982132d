-- Whether steps lead from an equation's side, or from a place where two rules meet, to a term that is too large can be told.
use Rattle.std.proofs.Common.{◌≡◌, ℕ, ◌+◌, ◌*◌, ◌⊎◌, List, [], ◌∷◌, sym, refl, subst, inl, inr, arith}
use mathlib.Core.Option.{some}
use native.Mathlib.Decide.{dec_lt}
use Rattle.rewriting.specs.Terms.{nth, Term, sign, put, size, SmallLetter, Fits}
use Rattle.rewriting.specs.Rules.{Eq, Steps, stay, go, Ends, ends, renamed}
use Rattle.rewriting.specs.Order.{rank, AllDown}
use Rattle.rewriting.specs.Overlaps.{Least}
use Rattle.rewriting.specs.Books.{Book, Fine}
use Rattle.rewriting.proofs.Choosing.{both_or, Each, each_or}
use Rattle.rewriting.proofs.Replacing.{put_through}
use Rattle.rewriting.proofs.Stepping.{steps_put}
use Rattle.rewriting.proofs.Signature.{over_fits}
use Rattle.rewriting.proofs.Terminating.{down_letters, down_ends}
use Rattle.rewriting.proofs.Reducts.{Reduct, reducts, Has, first, next, has_step}
use Rattle.rewriting.proofs.Unifying.{Solved, made_one}
use Rattle.rewriting.proofs.Peaks.{peak_of}
use Rattle.rewriting.proofs.Verdicts.{size_put}
use Rattle.critical_pairs.specs.OverlapList.{Position, Overlap, overlaps, Listed, this_one, later_one, MostGeneral, top_term}
use Rattle.critical_pairs.proofs.OverlapList.{overlaps_has, overlaps_only}
use Rattle.critical_pairs.proofs.Telling.{left_fits, top_term_fits}
use Rattle.equal.specs.Promises.{TooFew, Starting, Large}

-- what the first overlap of a list has and all others have, all have
first_has : (P : Overlap → Type 0) (o : Overlap) (os : List Overlap) → P o → ((p : Overlap) → Listed p os → P p) →
    (p : Overlap) → Listed p (o ∷ os) → P p
first_has P o os h k p this_one = h
first_has P o os h k p (later_one l) = k p l

-- all overlaps of a list have P, or else N, if that can be told of each
listed_or : (P : Overlap → Type 0) (N : Type 0) (os : List Overlap) → ((o : Overlap) → Listed o os → P o ⊎ N) →
    ((o : Overlap) → Listed o os → P o) ⊎ N
listed_or P N [] h = inl λ o l. elim l [ ]
listed_or P N (o ∷ os) h = both_or (first_has P o os) (h o this_one) (listed_or P N os (λ p l. h p (later_one l)))

module _ (b : Book) (fine : Fine b) (down : AllDown (rank b.ranks) b.rules) (w : ℕ) where
  -- steps lead from t to a term that is too large for w work words
  abbrev Outgrows : Term → Type 0
  Outgrows t = (u : Term) × Steps b.rules t u × TooFew w (size u)

  -- one of the first steps in a list leads on to such a term
  some_outgrows : (t : Term) (ps : List (Reduct b.rules t)) → ((p : Reduct b.rules t) → Dec (Outgrows p.0)) →
      Outgrows t ⊎ ((u : Term) → Has u ps → Outgrows u → ⊥)
  some_outgrows t [] dec = inr λ u h. elim h [ ]
  some_outgrows t (p ∷ ps) dec = at (dec p) (some_outgrows t ps dec)
    where
      at : Dec (Outgrows p.0) → Outgrows t ⊎ ((u : Term) → Has u ps → Outgrows u → ⊥) →
          Outgrows t ⊎ ((u : Term) → Has u (p ∷ ps) → Outgrows u → ⊥)
      at (yes o) rest = inl (o.0, go p.1 o.1, o.2)
      at (no k) (inl o) = inl o
      at (no k) (inr none) = inr λ u h o. elim h [
        | first e ↦ k (subst Outgrows (sym e) o)
        | next l ↦ none u l o
      ]

  -- not at once, and not from what one step leads to
  not_here : {t u : Term} → (TooFew w (size t) → ⊥) → ((v : Term) → Has v (reducts b.rules t) → Outgrows v → ⊥) → Steps b.rules t u →
      TooFew w (size u) → ⊥
  not_here small none stay large = small large
  not_here {u = u} small none (go {u = v} h k) large = none v (has_step b.rules (down_letters (rank b.ranks) b.rules down) h) (u, k, large)

  ends_outgrows : {t : Term} → Ends b.rules t → Dec (Outgrows t)
  ends_outgrows {t} (ends f) =
      at (dec_lt w (16384 + 64 * size t)) (some_outgrows t (reducts b.rules t) (λ p. ends_outgrows (f p.0 p.1)))
    where
      at : Dec (TooFew w (size t)) → Outgrows t ⊎ ((u : Term) → Has u (reducts b.rules t) → Outgrows u → ⊥) → Dec (Outgrows t)
      at (yes l) o = yes (t, stay, l)
      at (no n) (inl o) = yes o
      at (no n) (inr none) = no λ o. not_here n none o.1 o.2

  dec_outgrows : (t : Term) → Fits b.parts t → Dec (Outgrows t)
  dec_outgrows t f = ends_outgrows (down_ends b fine down t f)

  -- a term had by replacing outgrows the words too
  outgrows_put : (k : ℕ → Term) (t v : Term) → put k t ≡ v → Outgrows t → Outgrows v
  outgrows_put k t v e (u, steps, large) =
      subst Outgrows e (put k u, steps_put k steps, omega (arith, size_put k u))

  -- no term at which the two rules of an overlap meet outgrows the words
  abbrev NoneAt : Overlap → Type 0
  NoneAt o = (s : ℕ → Term) → MostGeneral o s → Outgrows (top_term o s) → ⊥

  overlap_told : (o : Overlap) → Listed o (overlaps b.rules) → NoneAt o ⊎ Large b w
  overlap_told o listed = told (made_one (sign o.at.f o.at.vs) (renamed o.q.left))
    where
      has : (nth b.rules o.i ≡ some o.p) × (nth b.rules o.j ≡ some o.q)
      has = overlaps_only b.rules o listed

      least : (l : Least (sign o.at.f o.at.vs) (renamed o.q.left)) → Dec (Outgrows (top_term o l.s)) → NoneAt o ⊎ Large b w
      least l (yes g) =
          inr (top_term o l.s, g.0, inl (peak_of o.i o.p has.0 o.j o.q has.1 o.at.f o.at.vs o.at.stands l), g.1, g.2)
      least l (no k) = inl λ s most g.
          let m = most.most l.s l.one in
          k (outgrows_put m.0 (top_term o s) (top_term o l.s) (put_through m.0 s l.s m.1 o.p.left) g)

      told : Solved (sign o.at.f o.at.vs) (renamed o.q.left) → NoneAt o ⊎ Large b w
      told (inr never) = inl (λ s most. absurd (never s most.one))
      told (inl l) = least l (dec_outgrows (top_term o l.s)
          (top_term_fits b fine o (left_fits b fine o.i o.p has.0) (left_fits b fine o.j o.q has.1) l))

  overlaps_told : ((o : Overlap) → Listed o (overlaps b.rules) → NoneAt o) ⊎ Large b w
  overlaps_told = listed_or NoneAt (Large b w) (overlaps b.rules) overlap_told

  -- neither side of an equation outgrows the words
  abbrev NoSide : Eq → Type 0
  NoSide e = (Outgrows e.left → ⊥) × (Outgrows e.right → ⊥)

  sides_told : Each NoSide b.eqs ⊎ Large b w
  sides_told = each_or NoSide (Large b w) b.eqs (λ i e d. told i e d
      (dec_outgrows e.left (over_fits b.parts SmallLetter e.left (fine.eqs i e d).left))
      (dec_outgrows e.right (over_fits b.parts SmallLetter e.right (fine.eqs i e d).right)))
    where
      told : (i : ℕ) (e : Eq) → nth b.eqs i ≡ some e → Dec (Outgrows e.left) → Dec (Outgrows e.right) → NoSide e ⊎ Large b w
      told i e d (yes o) r = inr (e.left, o.0, inr (i, e, d, inl refl), o.1, o.2)
      told i e d (no l) (yes o) = inr (e.right, o.0, inr (i, e, d, inr refl), o.1, o.2)
      told i e d (no l) (no r) = inl (l, r)

  none_large : ((o : Overlap) → Listed o (overlaps b.rules) → NoneAt o) → Each NoSide b.eqs → Large b w → ⊥
  none_large none sides (t, u, start, steps, large) = at start (u, steps, large)
    where
      at : Starting b t → Outgrows t → ⊥
      at (inl k) o =
          let a : Position k.p.left = record { f = k.f; vs = k.vs; stands = k.stands } in
          none (record { i = k.i; j = k.j; p = k.p; q = k.q; at = a }) (overlaps_has b.rules k.i k.j k.p k.q k.is_p k.is_q a) k.s
          (record { one = k.meet; most = k.most }) (subst Outgrows k.is o)
      at (inr (i, e, d, inl is)) o = (sides i e d).0 (subst Outgrows is o)
      at (inr (i, e, d, inr is)) o = (sides i e d).1 (subst Outgrows is o)

  pub dec_large : Dec (Large b w)
  dec_large = at overlaps_told sides_told
    where
      at : ((o : Overlap) → Listed o (overlaps b.rules) → NoneAt o) ⊎ Large b w → Each NoSide b.eqs ⊎ Large b w → Dec (Large b w)
      at (inr l) sides = yes l
      at (inl none) (inr l) = yes l
      at (inl none) (inl sides) = no (none_large none sides)
