-- What the overlaps that were gone through tell of the list of all, and this of the book.
use Rattle.std.proofs.Common.{◌≡◌, ℕ, ◌<◌, ◌≤◌, Bool, true, false, [], ◌∷◌, length, Ok, Err, Result, sym, subst, subst₂, inl, inr, arith}
use mathlib.Core.Option.{some}
use Rattle.rewriting.specs.Terms.{nth, Term, size, Fits}
use Rattle.rewriting.specs.Rules.{Eq, Step, at_top, Steps, go}
use Rattle.rewriting.specs.Overlaps.{Peak}
use Rattle.rewriting.specs.Order.{rank, AllDown}
use Rattle.rewriting.specs.Books.{OneEnd}
use Rattle.rewriting.specs.Different.{different}
use Rattle.rewriting.proofs.Members.{first, mem_right}
use Rattle.rewriting.proofs.Peaks.{overlap_step, peak_of}
use Rattle.rewriting.proofs.Verdicts.{apart_by}
use Rattle.critical_pairs.specs.OverlapList.{Overlap, overlaps, symbol, Listed, Resolved, AllResolved, ResolvedAt, top_term, first_of, second_of}
use Rattle.critical_pairs.proofs.OverlapList.{listed_if_mem, overlaps_only}
use Rattle.critical_pairs.proofs.Positions.{index_low}
use Rattle.critical_pairs.proofs.Prefix.{BeforeNumbers, resolved_before}
use Rattle.critical_pairs.proofs.Telling.{finitely_many_pairs_tell, resolved_by_any_holds, left_fits, top_term_fits}
use Rattle.books.specs.declared.row.Book.{Book}
use Rattle.books.specs.Books.{told, blank, rule_in, sound_book_in}
use Rattle.books.proofs.Elements.{nth_is, nth_below}
use Rattle.engine.specs.declared.types.NoRoom.{NoRoom}
use Rattle.engine.specs.Meeting.{Compares}
use Rattle.overlaps.specs.Verdict.{Joined, Failing, FirstFailing, OneEndSays}
use Rattle.overlaps.proofs.Going.{JoinedTo}

module _ (b : Book) where
  -- an overlap of the list whose numbers are joined is resolved
  joined_resolved : (o : Overlap) → Listed o (overlaps (told b).rules) → Joined b o.i o.j (symbol o) → Resolved (told b).rules o
  joined_resolved o m h =
      let (is_p, is_q) = overlaps_only (told b).rules o m in
      (resolved_by_any_holds (told b).rules o).1 (subst₂ (λ (p q : Eq). ResolvedAt (told b).rules p q (symbol o))
      (nth_is (told b).rules o.i o.p blank is_p) (nth_is (told b).rules o.j o.q blank is_q) h)

  rules_low : (o : Overlap) → Listed o (overlaps (told b).rules) → (o.i < length (told b).rules) × (o.j < length (told b).rules)
  rules_low o m =
      let (is_p, is_q) = overlaps_only (told b).rules o m in
      (nth_below (told b).rules o.i o.p is_p, nth_below (told b).rules o.j o.q is_q)

  symbol_low : (o : Overlap) → Listed o (overlaps (told b).rules) → symbol o < size (rule_in b o.i).left
  symbol_low o m = subst (λ (p : Eq). symbol o < size p.left)
      (sym (nth_is (told b).rules o.i o.p blank (overlaps_only (told b).rules o m).0)) (index_low o.at.stands)

  -- all have been gone through
  pub all_resolved : (i j k : ℕ) → length (told b).rules ≤ i → JoinedTo b i j k → AllResolved (told b).rules
  all_resolved i j k l t o m = joined_resolved o m (t.before o.i o.j (symbol o)
      (omega (arith, l, (rules_low o m).0)) (rules_low o m).1 (symbol_low o m))

  -- those that have been gone through are resolved
  lower_resolved : (i j k : ℕ) → JoinedTo b i j k →
      (o : Overlap) → Listed o (overlaps (told b).rules) → BeforeNumbers o i j k → Resolved (told b).rules o
  lower_resolved i j k t o m (inl l) = joined_resolved o m (t.before o.i o.j (symbol o) l (rules_low o m).1 (symbol_low o m))
  lower_resolved i j k t o m (inr (e, inl l)) = joined_resolved o m (subst (λ (y : ℕ). Joined b y o.j (symbol o)) (sym e)
      (t.row o.j (symbol o) l (subst (λ (y : ℕ). symbol o < size (rule_in b y).left) e (symbol_low o m))))
  lower_resolved i j k t o m (inr (e, inr (d, l))) = joined_resolved o m
      (subst₂ (λ (y z : ℕ). Joined b y z (symbol o)) (sym e) (sym d) (t.here (symbol o) l))

  -- of one the results fail to come together, or it can't be told; those before it are resolved
  pub first_failing : (n i j k : ℕ) (x : Result Bool NoRoom) → JoinedTo b i j k → Failing b n i j k x → FirstFailing b n x
  first_failing n i j k x t u =
      let (before, behind, all, resolved) = resolved_before (told b).rules i j k (lower_resolved i j k t)
      u.overlap u.listed u.outer u.inner u.symbol in
      record { before = before; overlap = u.overlap; behind = behind; all = all; resolved = resolved; results = u.results }

  -- so there is one end if all are
  pub one_end_if_found : AllDown (rank (told b).ranks) (told b).rules → (n : ℕ) (x : Bool) → x ≡ true → OneEndSays b n (Ok x) →
      OneEnd (told b)
  one_end_if_found down n true e h = (finitely_many_pairs_tell (told b) (sound_book_in b).reads.fine down).1 h
  one_end_if_found down n false e h = cc

  -- the term at an overlap, and its two results
  module _ {n : ℕ} {x : Result Bool NoRoom} (u : FirstFailing b n x) where
    abbrev top : Term
    top = top_term u.overlap u.results.least.s

    rules : (nth (told b).rules u.overlap.i ≡ some u.overlap.p) × (nth (told b).rules u.overlap.j ≡ some u.overlap.q)
    rules = overlaps_only (told b).rules u.overlap
        (subst (Listed u.overlap) (sym u.all) (listed_if_mem (mem_right u.before first)))

    first_step : Step (told b).rules top (first_of u.overlap u.results.least.s)
    first_step = at_top u.overlap.i u.overlap.p u.results.least.s rules.0

    second_step : Step (told b).rules top (second_of u.overlap u.results.least.s)
    second_step = overlap_step u.overlap.at.stands u.results.least.s u.overlap.j u.overlap.q rules.1 u.results.least.one

    peak : Peak (told b).rules top
    peak = peak_of u.overlap.i u.overlap.p rules.0 u.overlap.j u.overlap.q rules.1
        u.overlap.at.f u.overlap.at.vs u.overlap.at.stands u.results.least

    fits : Fits (told b).parts top
    fits = let fine = (sound_book_in b).reads.fine in
        top_term_fits (told b) fine u.overlap (left_fits (told b) fine u.overlap.i u.overlap.p rules.0)
        (left_fits (told b) fine u.overlap.j u.overlap.q rules.1) u.results.least

  -- two different normal forms of one term
  pub apart_if_not : (n : ℕ) (x : Bool) → x ≡ false → OneEndSays b n (Ok x) → OneEnd (told b) → ⊥
  apart_if_not n true e h = cc
  apart_if_not n false e u = let (v, w, hv, dv, hw, dw, differ) = u.results.compared in
      apart_by (told b) (top u) v w (fits u) (go (first_step u) hv) dv (go (second_step u) hw) dw differ

  -- a term that is too large
  pub large_of : {n : ℕ} {e : NoRoom} → FirstFailing b n (Err e) →
      (t v : Term) × Peak (told b).rules t × Steps (told b).rules t v × (n < different (v ∷ []))
  large_of {n} {e} u = at u.results.compared
    where
      at : Compares b n (first_of u.overlap u.results.least.s) (second_of u.overlap u.results.least.s) (Err e) →
          (t v : Term) × Peak (told b).rules t × Steps (told b).rules t v × (n < different (v ∷ []))
      at (v, inl h, m) = (top u, v, peak u, go (first_step u) h, m)
      at (v, inr h, m) = (top u, v, peak u, go (second_step u) h, m)
