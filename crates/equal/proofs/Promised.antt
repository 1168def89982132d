-- The promises of the two calls, from what was found.
use Rattle.std.proofs.Common.{◌≡◌, ℕ, ◌+◌, ◌≤◌, List, length, Some, None, Option as Maybe, sym, refl, subst, arith, inl, inr}
use native.Mathlib.Decide.{dec_le}
use Rattle.rewriting.specs.Books.{Book as ToldBook}
use Rattle.rewriting.proofs.Different.{different_size}
use Rattle.rewriting.proofs.Terminating.{down_ends}
use Rattle.rewriting.proofs.Pairs.{told_by_pairs_lem}
use Rattle.rewriting.proofs.Peaks.{overlaps_tell_lem, peaks_tell_lem}
use Rattle.rewriting.proofs.Settling.{settled}
use Rattle.rewriting.proofs.Grounding.{order_ends_lem}
use Rattle.rewriting.proofs.Ordering.{order_kept_lem}
use Rattle.rewriting.proofs.Unifying.{made_one}
use Rattle.rewriting.proofs.Moving.{machine_steps_lem, machine_valid_lem}
use Rattle.rewriting.proofs.Costing.{machine_ends_lem}
use Rattle.critical_pairs.proofs.Sorted.{overlaps_are_listed}
use Rattle.critical_pairs.proofs.Telling.{finitely_many_pairs_tell}
use Rattle.critical_pairs.proofs.Renaming.{most_general_alike_holds}
use Rattle.books.specs.declared.row.Book.{Book}
use Rattle.books.specs.Books.{told, sound_book_in}
use Rattle.books.specs.Rows.{Reads}
use Rattle.books.proofs.Unique.{one_book, one_term, one_ways}
use Rattle.engine.specs.declared.work.Work.{Work}
use Rattle.engine.specs.Working.{Fresh, SharedOut}
use Rattle.equal.specs.declared.types.Judged.{Judged}
use Rattle.equal.specs.declared.types.Judged.TheVariants.{Settles, Up, Apart, Lost, Stray, NoBook, Room, Few}
use Rattle.equal.specs.declared.types.Told.{Told}
use Rattle.equal.specs.declared.types.Told.TheVariants.{Same, Different, Unsettled, NoTerm, Full, Unjudged, Small}
use Rattle.engine.specs.Meeting.{Ample, most_parts}
use Rattle.equal.specs.Promises.{JudgedSays, TooFew, Large, Theorems, JudgedPost, ToldSays, Grows, ToldPost}
use Rattle.equal.specs.Judging.{Growing, RoomFor, JudgedIn, SharedFor, not_settled, RowsSay}
use Rattle.equal.specs.Serving.{StillServes}
use Rattle.equal.specs.Sessions.{RefusedSays}

pub theorems : Theorems
theorems = record {
  one_book = one_book;
  one_term = one_term;
  one_ways = one_ways;
  order_ends = order_ends_lem;
  order_kept = order_kept_lem;
  rules_down_end = down_ends;
  least_or_none = made_one;
  one_end_by_overlaps = overlaps_tell_lem;
  one_end_by_steps_at_overlaps = peaks_tell_lem;
  one_end_is_told = told_by_pairs_lem;
  overlaps_are_listed = overlaps_are_listed;
  one_end_by_the_list = finitely_many_pairs_tell;
  most_general_are_alike = most_general_alike_holds;
  equal_terms_meet = settled;
  moves_are_steps = machine_steps_lem;
  moves_keep_validity = machine_valid_lem;
  moves_end = machine_ends_lem;
}

-- enough words are shared out
pub shared_for : (n w : ℕ) (o : Maybe Work) → SharedOut w o → (TooFew w n → ⊥) → SharedFor n w o
shared_for n w None few enough = absurd (enough (omega arith))
shared_for n w (Some k) shared enough = (enough, shared)

-- what the work words give
module _ {s h : List ℕ} {w : ℕ} {k : Work} (fresh : Fresh w k) (enough : TooFew w (length s + length h) → ⊥) where
  room_for : RoomFor s h (most_parts w) k
  room_for = record { ample = fresh.ample; slots = fresh.slots; long = at (dec_le (length s + length h) (most_parts w)) }
    where
      at : Dec (length s + length h ≤ most_parts w) → length s + length h ≤ most_parts w
      at (yes e) = e
      at (no d) = absurd (enough (omega arith))

  -- what was found of a book that settles
  module _ {l : Work} (found : (n : ℕ) → RoomFor s h n k → JudgedIn s h n k l Settles) where
    pub settled_serves : StillServes s k l
    settled_serves = (found (most_parts w) room_for).serves refl

-- a term of more different parts than w words allow has too many letters and signs
large : (b : ToldBook) (w : ℕ) → 16384 ≤ w → Growing b (most_parts w) → Large b w
large b w low (t, u, start, steps, many) = (t, u, start, steps, omega (arith, different_size u))

pub judged_post : {s h : List ℕ} {w : ℕ} {k l : Work} {a : Judged} → (16384 ≤ w) × Fresh w k →
    (TooFew w (length s + length h) → ⊥) → ((n : ℕ) → RoomFor s h n k → JudgedIn s h n k l a) → JudgedPost s h w a
judged_post {w = w} given enough found =
    let j = found (most_parts w) (room_for given.1 enough) in
    record {
      says = j.says;
      room = λ e b reads. large b w given.0 (j.room e b reads);
      few = (λ few. absurd (enough few), λ e. absurd (j.enough e));
      theorems = theorems;
    }

pub judged_few : (s h : List ℕ) (w : ℕ) → TooFew w (length s + length h) → JudgedPost s h w Few
judged_few s h w few = record {
  says = tt;
  room = λ e. cc;
  few = (λ _. refl, λ _. few);
  theorems = theorems;
}

module _ (s h x y : List ℕ) (w : ℕ) where
  -- too few words
  pub told_small : TooFew w (length s + (length h + (length x + length y))) → ToldPost s h x y w Small
  told_small few = record {
    says = tt;
    full = λ e. cc;
    unjudged = λ e. cc;
    small = (λ _. refl, λ _. few);
    theorems = theorems;
  }

  module _ (enough : TooFew w (length s + (length h + (length x + length y))) → ⊥) where
    -- another answer rules out that the book settles
    by : (JudgedSays s h Settles → ⊥) → ToldPost s h x y w Unsettled
    by excluded = record {
      says = excluded;
      full = λ e. cc;
      unjudged = λ e. cc;
      small = (λ small. absurd (enough small), λ e. cc);
      theorems = theorems;
    }

    at : (r : Judged) → RefusedSays s h w r → ToldPost s h x y w (not_settled r)
    at Settles p = absurd (p.other refl)
    at (Up i) p = by (p.excluded (λ e. cc) (λ e. cc))
    at Apart p = by (p.excluded (λ e. cc) (λ e. cc))
    at (Lost i) p = by (p.excluded (λ e. cc) (λ e. cc))
    at Stray p = by (p.excluded (λ e. cc) (λ e. cc))
    at NoBook p = by (p.excluded (λ e. cc) (λ e. cc))
    at Room p = record {
      says = tt;
      full = λ e. cc;
      unjudged = λ e. p.room refl;
      small = (λ small. absurd (enough small), λ e. cc);
      theorems = theorems;
    }
    at Few p = absurd (enough (omega (arith, p.few refl)))

    pub told_other : (r : Judged) → RefusedSays s h w r → (a : Told) → a ≡ not_settled r → ToldPost s h x y w a
    told_other r p a e = subst (ToldPost s h x y w) (sym e) (at r p)

    -- it settles
    module _ (b : Book) (same : b.words.now ≡ s) (said : JudgedSays s h Settles) where
      reads : Reads s (told b)
      reads = subst (λ (v : List ℕ). Reads v (told b)) same (sound_book_in b).reads

      short : (n : ℕ) → n ≤ length x + length y → n ≤ most_parts w
      short n l = at (dec_le n (most_parts w))
        where
          at : Dec (n ≤ most_parts w) → n ≤ most_parts w
          at (yes e) = e
          at (no d) = absurd (enough (omega arith))

      post : (a : Told) → ToldSays s h x y a → (a ≡ Full → Grows s x y w) → (a ≡ Unjudged → ⊥) → (a ≡ Small → ⊥) → ToldPost s h x y w a
      post a said full judged words = record {
        says = said;
        full = full;
        unjudged = λ e. absurd (judged e);
        small = (λ few. absurd (enough few), λ e. absurd (words e));
        theorems = theorems;
      }

      rows : (a : Told) → RowsSay b (most_parts w) x y a → ToldPost s h x y w a
      rows Same (t, u, ot, ou, e) = post Same (told b, t, u, said, reads, ot, ou, e) (λ d. cc) (λ d. cc) (λ d. cc)
      rows Different (t, u, ot, ou, e) = post Different (told b, t, u, said, reads, ot, ou, e) (λ d. cc) (λ d. cc) (λ d. cc)
      rows Unsettled none = absurd none
      rows NoTerm none = post NoTerm (told b, said, reads, none) (λ d. cc) (λ d. cc) (λ d. cc)
      rows Full (t, u, v, ot, ou, inl steps, large) = post Full (told b, t, u, said, reads, ot, ou)
          (λ d. (told b, t, v, reads, inl ot, steps, omega (arith, different_size v))) (λ d. cc) (λ d. cc)
      rows Full (t, u, v, ot, ou, inr steps, large) = post Full (told b, t, u, said, reads, ot, ou)
          (λ d. (told b, u, v, reads, inr ou, steps, omega (arith, different_size v))) (λ d. cc) (λ d. cc)
      rows Unjudged none = absurd none
      rows Small none = absurd none

      pub told_rows : {l : Work} {a : Told} → Ample (most_parts w) l →
          ((n : ℕ) → Ample n l → length x ≤ n → length y ≤ n → RowsSay b n x y a) → ToldPost s h x y w a
      told_rows {a = a} ample found =
          rows a (found (most_parts w) ample (short (length x) (omega arith)) (short (length y) (omega arith)))
