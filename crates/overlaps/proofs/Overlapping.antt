-- Where two rules meet: by the words of their left sides.
use Rattle.std.proofs.Common.{◌≡◌, ℕ, ◌+◌, ◌*◌, ◌<◌, ◌≤◌, List, ◌++◌, length, get_or, drop, Some, None, sym, refl, ap, ◌∙◌, subst}
use Rattle.std.proofs.Common.{arith, length-drop}
use Rattle.rewriting.specs.Terms.{Term, letter, sign, Terms, put, puts, size, Over, SmallLetter}
use Rattle.rewriting.specs.Rules.{Part, renamed}
use Rattle.rewriting.specs.Order.{rank, AllDown}
use Rattle.rewriting.proofs.Glueing.{size_some}
use Rattle.rewriting.proofs.Signature.{over_part}
use Rattle.books.specs.declared.row.Book.{Book}
use Rattle.books.specs.declared.words.Letters.TheVariants.{Small}
use Rattle.books.specs.Rows.{row}
use Rattle.books.specs.Reading.{TermEnd}
use Rattle.books.specs.Books.{told, rule_in, sound_book_in}
use Rattle.books.proofs.Bookish.{is_rule, rule_sides}
use Rattle.books.proofs.Glueing.{row_length}
use Rattle.books.proofs.Unique.{row_once}
use Rattle.engine.proofs.Trying.{greater_sign}
use Rattle.critical_pairs.specs.OverlapList.{index}
use Rattle.overlaps.specs.Positions.{At, SameSign, OverlapIs, OverlapOrNone}
use Rattle.overlaps.proofs.Positions.{at_index, behind, words_from, part_length}

first_sign : (v : Term) (zs : List ℕ) → (get_or (row v ++ zs) 0 0 ≡ 0 → ⊥) → (f : ℕ) × (vs : Terms) × (v ≡ sign f vs)
first_sign (letter x) zs n = absurd (n refl)
first_sign (sign f vs) zs n = (f, vs, refl)

-- a left side has at most 32 symbols
pub side_short : (b : Book) (i : ℕ) → i < length (told b).rules → {ws : List ℕ} → ws ≡ row (rule_in b i).left → length ws ≤ 64
side_short b i low e =
    omega (arith, ap length e, row_length (rule_in b i).left, (rule_sides b (sound_book_in b) i low).left_size)

module _ (b : Book) (down : AllDown (rank (told b).ranks) (told b).rules) (i j k : ℕ)
    (low : (i < length (told b).rules) × (j < length (told b).rules)) {ws vs : List ℕ}
    (ew : ws ≡ row (rule_in b i).left) (ev : vs ≡ row (rule_in b j).left) where
  from_here : {v : Term} (place : Part v (rule_in b i).left) → index place ≡ k → row v ++ behind place ≡ drop (2 * k) ws
  from_here place e = sym (words_from place ws ew) ∙ ap (λ (n : ℕ). drop (2 * n) ws) e

  -- another sign
  pub other_sign : (SameSign (drop (2 * k) ws) vs → ⊥) → OverlapOrNone b i j k None
  other_sign n f us place e s d =
      let (g, ts, h) = greater_sign (down j (rule_in b j) (is_rule b (sound_book_in b) j low.1)) in
      let x : sign f (puts s us) ≡ sign g (puts s (puts (λ x. letter (x + 16)) ts)) = d ∙ ap (λ (t : Term). put s (renamed t)) h in
      let z : f ≡ g = cc in
      let words = from_here place e in
      let l = part_length place ws ew in
      n (
        f,
        (
          omega (arith, l, e, length-drop (2 * k) ws),
          ap (λ (w : List ℕ). get_or w 0 0) (sym words),
          ap (λ (w : List ℕ). get_or w 1 0) (sym words),
        ),
        (
          omega (arith, ap length ev, row_length (rule_in b j).left, size_some (rule_in b j).left),
          ap (λ (w : List ℕ). get_or w 0 0) (ev ∙ ap row h),
          ap (λ (w : List ℕ). get_or w 1 0) (ev ∙ ap row h) ∙ sym z,
        ),
      )

  module _ {ps : List ℕ} (ep : ps ≡ (told b).parts) where
    over_here : {v : Term} → Part v (rule_in b i).left → Over SmallLetter ps v
    over_here {v} place = subst (λ (qs : List ℕ). Over SmallLetter qs v) (sym ep)
        (over_part (told b).parts SmallLetter place (rule_sides b (sound_book_in b) i low.0).left)

    pub no_end : TermEnd Small ps ws (2 * k) None → OverlapOrNone b i j k None
    no_end h f us place e s d = h (sign f us) (behind place) (over_here place) (from_here place e)

    pub overlap_is : (z : ℕ) → k < size (rule_in b i).left → SameSign (drop (2 * k) ws) vs → TermEnd Small ps ws (2 * k) (Some z) →
        OverlapIs b i j k (record { outer = i; inner = j; from = 2 * k; to = z })
    overlap_is z l g (t, o, w) =
        let (v, place, e) = at_index (rule_in b i).left k l in
        record {
          outer = refl;
          inner = refl;
          stands = record { outer = low.0; inner = low.1; part = v; place = place; at = each v place e };
          symbol = e;
          is_sign = first_sign v (behind place)
              (λ y. absurd (omega (arith, g.1.1, ap (λ (w : List ℕ). get_or w 0 0) (sym (from_here place e)) ∙ y)));
          each = each;
        }
      where
        each : (v : Term) (place : Part v (rule_in b i).left) → index place ≡ k → At place (2 * k) z
        each v place e =
            let d : v ≡ t = row_once ps v t (behind place) (drop z ws) (over_here place) o (from_here place e ∙ w.written) in
            record { from = ap (λ (n : ℕ). 2 * n) (sym e); to = omega (arith, w.long, ap size d) }
