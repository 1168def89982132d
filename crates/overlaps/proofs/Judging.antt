-- What the comparison of both results tells of an overlap.
use Rattle.std.proofs.Common.{◌≡◌, ℕ, ◌+◌, ◌<◌, ◌≤◌, Bool, true, false, length, Some, None, Ok, Err, Result, sym, refl, ap, ◌∙◌, subst, subst₂}
use Rattle.std.proofs.Common.{inl, inr, arith}
use mathlib.Core.Option.{some}
use Rattle.rewriting.specs.Terms.{nth, Term, letter, sign, Terms, put, Fits, SmallLetter, AnyLetter}
use Rattle.rewriting.specs.Rules.{Eq, Step, at_top, Part, renamed}
use Rattle.rewriting.specs.Overlaps.{fill, Least}
use Rattle.rewriting.specs.Order.{rank, AllDown}
use Rattle.rewriting.proofs.Signature.{over_put, over_fits, over_part}
use Rattle.rewriting.proofs.Terminating.{step_keeps}
use Rattle.rewriting.proofs.Unifying.{least_fits}
use Rattle.rewriting.proofs.Peaks.{results_through, overlap_step}
use Rattle.critical_pairs.specs.OverlapList.{index}
use Rattle.critical_pairs.specs.OverlapList.{Overlap as ListedOverlap}
use Rattle.critical_pairs.proofs.OverlapList.{overlaps_has}
use Rattle.store.specs.declared.types.Store.{Store}
use Rattle.store.specs.declared.types.Roots.{Roots}
use Rattle.store.specs.Stores.{term_in, held}
use Rattle.store.specs.Stacks.{root_in, StackedOn}
use Rattle.store.proofs.Cases.{le_or_lt}
use Rattle.books.specs.declared.row.Book.{Book}
use Rattle.books.specs.Books.{told, rule_in, sound_book_in}
use Rattle.books.proofs.Bookish.{is_rule}
use Rattle.engine.specs.declared.types.Frames.{Frames}
use Rattle.engine.specs.declared.types.NoRoom.{NoRoom}
use Rattle.engine.specs.declared.work.Work.{Work}
use Rattle.engine.specs.Meeting.{Ample, TwoRoots, Compares}
use Rattle.overlaps.specs.declared.types.Overlap.{Overlap}
use Rattle.overlaps.specs.declared.types.Pair.{Pair}
use Rattle.overlaps.specs.Positions.{Stands, OverlapIs}
use Rattle.overlaps.specs.Pairs.{Results, PairFound}
use Rattle.overlaps.specs.Verdict.{Joined, Failing, OverlapSays}

module _ (b : Book) (o : Overlap) (stands : Stands b o) where
  is_p : nth (told b).rules o.outer ≡ some (rule_in b o.outer)
  is_p = is_rule b (sound_book_in b) o.outer stands.outer

  is_q : nth (told b).rules o.inner ≡ some (rule_in b o.inner)
  is_q = is_rule b (sound_book_in b) o.inner stands.inner

  -- what is found of its two results is found of an overlap of the list
  pub failing : {v : Term} (place : Part v (rule_in b o.outer).left) (l : Least v (renamed (rule_in b o.inner).left))
      (f : ℕ) (vs : Terms) → v ≡ sign f vs → (n k : ℕ) (x : Result Bool NoRoom) → index place ≡ k →
      Compares b n (put l.s (rule_in b o.outer).right) (fill place l.s (put l.s (renamed (rule_in b o.inner).right))) x →
      Failing b n o.outer o.inner k x
  failing place l f vs e n k x = subst
      (λ (v : Term). (at : Part v (rule_in b o.outer).left) (m : Least v (renamed (rule_in b o.inner).left)) → index at ≡ k →
      Compares b n (put m.s (rule_in b o.outer).right) (fill at m.s (put m.s (renamed (rule_in b o.inner).right))) x →
      Failing b n o.outer o.inner k x)
      (sym e) here place l
    where
      here : (at : Part (sign f vs) (rule_in b o.outer).left) (m : Least (sign f vs) (renamed (rule_in b o.inner).left)) → index at ≡ k →
          Compares b n (put m.s (rule_in b o.outer).right) (fill at m.s (put m.s (renamed (rule_in b o.inner).right))) x →
          Failing b n o.outer o.inner k x
      here at m i c = record {
        overlap = overlap;
        listed = overlaps_has (told b).rules o.outer o.inner (rule_in b o.outer) (rule_in b o.inner) is_p is_q
            (record { f = f; vs = vs; stands = at });
        outer = refl;
        inner = refl;
        symbol = i;
        results = record { least = m; compared = c };
      }
        where
          overlap : ListedOverlap
          overlap = record {
            i = o.outer;
            j = o.inner;
            p = rule_in b o.outer;
            q = rule_in b o.inner;
            at = record { f = f; vs = vs; stands = at };
          }

-- the term where the rules meet, and its two results
module _ (b : Book) (down : AllDown (rank (told b).ranks) (told b).rules) (su : Store) (o : Overlap) (stands : Stands b o) {v : Term}
    (place : Part v (rule_in b o.outer).left) (l : Least v (renamed (rule_in b o.inner).left)) where
  abbrev first : Term
  first = put l.s (rule_in b o.outer).right

  abbrev second : Term
  second = fill place l.s (put l.s (renamed (rule_in b o.inner).right))

  fit : (i : ℕ) (r : Eq) → nth (told b).rules i ≡ some r → Fits (told b).parts r.left
  fit i r e = over_fits (told b).parts SmallLetter r.left ((sound_book_in b).reads.fine.rules i r e).left

  top_fits : Fits (told b).parts (put l.s (rule_in b o.outer).left)
  top_fits = over_put (told b).parts AnyLetter AnyLetter l.s (rule_in b o.outer).left (fit o.outer _ (is_p b o stands))
      (λ x k. least_fits (told b).parts v (renamed (rule_in b o.inner).left) l
      (over_part (told b).parts AnyLetter place (fit o.outer _ (is_p b o stands)))
      (over_put (told b).parts AnyLetter AnyLetter (λ x. letter (x + 16)) (rule_in b o.inner).left (fit o.inner _ (is_q b o stands))
      (λ x k. tt)) x)

  result_fits : {u : Term} → Step (told b).rules (put l.s (rule_in b o.outer).left) u → Fits (told b).parts u
  result_fits h = step_keeps (told b) (sound_book_in b).reads.fine down h top_fits

  first_fits : Fits (told b).parts first
  first_fits = result_fits (at_top o.outer (rule_in b o.outer) l.s (is_p b o stands))

  second_fits : Fits (told b).parts second
  second_fits = result_fits (overlap_step place l.s o.inner (rule_in b o.inner) (is_q b o stands) l.one)

  -- both are on the roots
  module _ (r : Pair) (res : Results place l.s (rule_in b o.outer).right (rule_in b o.inner).right su r) (q0 q1 q2 : Roots)
      (s1 : StackedOn q0 0 r.first.0 q1) (s2 : StackedOn q1 1 r.second.0 q2) (cells : 4 ≤ length q0.cells.now) where
    root0 : root_in q2 0 ≡ r.first.0
    root0 = s2.rest 0 (λ e. omega arith) ∙ s1.is

    held0 : held su q2 0 ≡ first
    held0 = ap (λ (i : ℕ). term_in su i) root0 ∙ res.first

    held1 : held su q2 1 ≡ second
    held1 = ap (λ (i : ℕ). term_in su i) s2.is ∙ res.second

    pub two_roots : (fr : Frames) → TwoRoots b (record { store = su; roots = q2; frames = fr })
    two_roots fr = record {
      inside = record {
        fits = omega (arith, s1.long, s2.long, s2.top);
        low = λ k h. low k (omega (arith, s2.top));
      };
      two = omega (arith, s2.top);
      first = subst (Fits (told b).parts) (sym held0) first_fits;
      second = subst (Fits (told b).parts) (sym held1) second_fits;
    }
      where
        low : (k : ℕ) → k < 2 → root_in q2 k < su.count
        low k h = elim (le_or_lt 1 k) [
          | inl g ↦ let e : k ≡ 1 = omega arith in
              subst (λ (j : ℕ). root_in q2 j < su.count) (sym e) (omega (arith, s2.is, res.second_inside))
          | inr g ↦ let e : k ≡ 0 = omega arith in
              subst (λ (j : ℕ). root_in q2 j < su.count) (sym e) (omega (arith, root0, res.first_inside))
        ]

    pub results_compared : (n : ℕ) (x : Result Bool NoRoom) → Compares b n (held su q2 0) (held su q2 1) x → Compares b n first second x
    results_compared n x = subst₂ (λ (t u : Term). Compares b n t u x) held0 held1

module _ {b : Book} {i j k : ℕ} {o : Overlap} {st su : Store} (is : OverlapIs b i j k o) where
  pub never_joined : PairFound b o st su None → Joined b i j k
  never_joined h = subst₂ (λ (x y : ℕ). Joined b x y k) is.outer is.inner
      (λ f vs place e s d. absurd (h.pair (sign f vs) place (is.each (sign f vs) place e) s d))

  module _ (down : AllDown (rank (told b).ranks) (told b).rules) {r : Pair} {q0 q1 q2 : Roots} (found : PairFound b o st su (Some r))
      (s1 : StackedOn q0 0 r.first.0 q1) (s2 : StackedOn q1 1 r.second.0 q2) (cells : 4 ≤ length q0.cells.now) where
    abbrev least : Least is.stands.part (renamed (rule_in b o.inner).left)
    least = (found.pair is.stands.part is.stands.place is.stands.at).0

    results : Results is.stands.place least.s (rule_in b o.outer).right (rule_in b o.inner).right su r
    results = (found.pair is.stands.part is.stands.place is.stands.at).1

    module _ (fr : Frames) where
      abbrev before : Work
      before = record { store = st; roots = q0; frames = fr }

      abbrev ready : Work
      ready = record { store = su; roots = q2; frames = fr }

      pub roots_two : TwoRoots b ready
      roots_two = two_roots b down su o is.stands is.stands.place least r results q0 q1 q2 s1 s2 cells fr

      -- there is as much room as before
      still_ample : {n : ℕ} → Ample n before → Ample n ready
      still_ample a = record {
        slots = omega (arith, a.slots, found.room);
        cells = omega (arith, a.cells, s1.long, s2.long);
        words = a.words;
      }

      -- they come together, and so they do with all that makes the two left sides one
      joined : (n : ℕ) → Compares b n (held su q2 0) (held su q2 1) (Ok true) → Joined b i j k
      joined n c = subst₂ (λ (x y : ℕ). Joined b x y k) is.outer is.inner
          (λ f vs place e s d. let (l, res) = found.pair (sign f vs) place (is.each (sign f vs) place e) in
          results_through (rule_in b o.outer) (rule_in b o.inner) place s l.s s (l.most s d)
          (results_compared b down su o is.stands place l r res q0 q1 q2 s1 s2 cells n (Ok true) c))

      -- they come to different normal forms, or it can't be told
      failing_here : (n : ℕ) (x : Result Bool NoRoom) → Compares b n (held su q2 0) (held su q2 1) x → Failing b n i j k x
      failing_here n x c = let (f, vs, is_f) = is.is_sign in
          subst₂ (λ (y z : ℕ). Failing b n y z k x) is.outer is.inner
          (failing b o is.stands is.stands.place least f vs is_f n k x is.symbol
          (results_compared b down su o is.stands is.stands.place least r results q0 q1 q2 s1 s2 cells n x c))

      pub says : (n : ℕ) (x : Result Bool NoRoom) → (Ample n ready → Compares b n (held su q2 0) (held su q2 1) x) → Ample n before →
          OverlapSays b n i j k x
      says n (Ok true) c a = joined n (c (still_ample a))
      says n (Ok false) c a = failing_here n (Ok false) (c (still_ample a))
      says n (Err e) c a = failing_here n (Err e) (c (still_ample a))
