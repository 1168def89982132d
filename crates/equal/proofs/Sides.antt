-- The sides of equations as rows, and a loop over the equations that looks whether they meet.
use Rattle.std.proofs.Common.{◌≡◌, ℕ, ◌+◌, ◌*◌, ◌<◌, ◌≤◌, Bool, true, false, List, length, get_or, is_some as option_is_some, Some, None}
use Rattle.std.proofs.Common.{Option as Maybe, Ok, Result, sym, refl, ap, subst, arith}
use native.Mathlib.Decide.{ℕ_discrete}
use Rattle.rewriting.specs.Terms.{SmallLetter, Fits}
use Rattle.rewriting.specs.Rules.{Eq, Meet}
use Rattle.rewriting.specs.Books.{OneEnd, NoLess}
use Rattle.rewriting.proofs.Signature.{over_fits}
use Rattle.rewriting.proofs.Verdicts.{lost_by}
use Rattle.books.specs.declared.row.Book.{Book}
use Rattle.books.specs.Books.{told, sound_book_in, blank, equation_in, EquationAt}
use Rattle.books.specs.Rows.{row}
use Rattle.books.proofs.Elements.{nth_below, nth_is}
use Rattle.books.proofs.Bookish.{equation_sides, equation_at}
use Rattle.order.specs.declared.terminating.Terminating.{Terminating}
use Rattle.engine.specs.declared.types.NoRoom.{NoRoom}
use Rattle.engine.specs.declared.work.Work.{Work}
use Rattle.engine.specs.Meeting.{Compares}
use Rattle.engine.specs.declared.reducer.Reducer.{Reducer}
use Rattle.engine.specs.Reducers.{LeftIdle}
use Rattle.engine.proofs.Keeping.{ample_still}
use Rattle.engine.specs.Pairs.{RowsOf, RowsCompared}
use Rattle.equal.specs.Judging.{AmpleFor, KeptBefore, EquationsSay}

module _ (b : Book) (i : ℕ) (low : i < length (told b).eqs) where
  pub left_fits : Fits (told b).parts (equation_in b i).left
  left_fits = over_fits (told b).parts SmallLetter (equation_in b i).left (equation_sides b (sound_book_in b) i low).left

  pub right_fits : Fits (told b).parts (equation_in b i).right
  right_fits = over_fits (told b).parts SmallLetter (equation_in b i).right (equation_sides b (sound_book_in b) i low).right

  -- where its sides stand
  abbrev start : ℕ → ℕ
  start k = get_or b.layout.starts k 0

  stands : EquationAt b i (start (2 * i)) (start (2 * i + 1)) (start (2 * i + 2))
  stands = equation_at b (sound_book_in b) i low (start (2 * i)) (start (2 * i + 1)) (start (2 * i + 2)) refl refl refl

  -- its sides as rows
  module _ {ls rs : List ℕ} (left : ls ≡ row (equation_in b i).left) (right : rs ≡ row (equation_in b i).right) where
    pub side_rows : RowsOf b ls rs (equation_in b i).left (equation_in b i).right
    side_rows = record {
      left = record { written = sym left; fits = (equation_sides b (sound_book_in b) i low).left };
      right = record { written = sym right; fits = (equation_sides b (sound_book_in b) i low).right };
    }

    pub is_some : (w : Work) (x : Maybe (Result Bool NoRoom)) → RowsCompared b w ls rs x → option_is_some x ≡ true
    is_some w (Some x) h = refl
    is_some w None h = absurd (h ((equation_in b i).left, (equation_in b i).right, side_rows))

    -- what is found is of the sides
    pub sides_compared : (n : ℕ) (w : Work) → AmpleFor b n w → (x : Result Bool NoRoom) (y : Maybe (Result Bool NoRoom)) → y ≡ Some x →
        RowsCompared b w ls rs y → Compares b n (equation_in b i).left (equation_in b i).right x
    sides_compared n w e x y d h =
        (subst (λ (v : Maybe (Result Bool NoRoom)). RowsCompared b w ls rs v) d h).1 (equation_in b i).left (equation_in b i).right
        side_rows n e.ample (omega (arith, stands.left.long, stands.left.within, e.long))
        (omega (arith, stands.right.long, stands.right.within, e.long))

-- after some work the rules are the same, and there is as much room
module _ {r s : Reducer} (d : LeftIdle r s) where
  pub ample_on : {n : ℕ} → AmpleFor r.rules.now.book n r.work.now → AmpleFor s.rules.now.book n s.work.now
  ample_on e = record {
    ample = ample_still d.idle e.ample;
    slots = omega (arith, e.slots, d.idle.room);
    long = omega (arith, e.long, ap (λ (t : Terminating). length t.book.words.now) d.lent.rules);
  }

  pub equation_still : (i : ℕ) → i < length (told r.rules.now.book).eqs → i < length (told s.rules.now.book).eqs
  equation_still i l = subst (λ (t : Terminating). i < length (told t.book).eqs) (sym d.lent.rules) l

  pub one_end_still : OneEnd (told r.rules.now.book) → OneEnd (told s.rules.now.book)
  one_end_still one = subst (λ (t : Terminating). OneEnd (told t.book)) (sym d.lent.rules) one

  pub compares_still : (n i : ℕ) (x : Result Bool NoRoom) →
      Compares s.rules.now.book n (equation_in s.rules.now.book i).left (equation_in s.rules.now.book i).right x →
      Compares r.rules.now.book n (equation_in r.rules.now.book i).left (equation_in r.rules.now.book i).right x
  compares_still n i x h =
      subst (λ (t : Terminating). Compares t.book n (equation_in t.book i).left (equation_in t.book i).right x) d.lent.rules h

  pub equations_still : (n : ℕ) (x : Result (Maybe ℕ) NoRoom) → EquationsSay s.rules.now.book n x → EquationsSay r.rules.now.book n x
  equations_still n x h = subst (λ (t : Terminating). EquationsSay t.book n x) d.lent.rules h

-- one more equation
pub kept_more : (b : Book) (n i : ℕ) → KeptBefore b i →
    Compares b n (equation_in b i).left (equation_in b i).right (Ok true) → KeptBefore b (i + 1)
kept_more b n i kept same j l = at (ℕ_discrete j i)
  where
    at : Dec (j ≡ i) → Meet (told b).rules (equation_in b j).left (equation_in b j).right
    at (yes e) = subst (λ (k : ℕ). Meet (told b).rules (equation_in b k).left (equation_in b k).right) (sym e) same
    at (no d) = kept j (omega arith)

-- all of them
pub kept_all : (b : Book) (i : ℕ) → length (told b).eqs ≤ i → KeptBefore b i → NoLess (told b)
kept_all b i l kept j e h =
    subst (λ (d : Eq). Meet (told b).rules d.left d.right) (nth_is (told b).eqs j e blank h)
    (kept j (omega (arith, nth_below (told b).eqs j e h)))

-- the first that is lost
pub is_lost : (b : Book) → OneEnd (told b) → (n i : ℕ) (low : i < length (told b).eqs) → KeptBefore b i →
    Compares b n (equation_in b i).left (equation_in b i).right (Ok false) → EquationsSay b n (Ok (Some i))
is_lost b one n i low kept (v, w, hv, dv, hw, dw, differ) = (
  low,
  lost_by (told b) one (equation_in b i).left (equation_in b i).right v w (left_fits b i low) (right_fits b i low)
      hv dv hw dw differ,
  kept,
)
