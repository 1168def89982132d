-- Four words copied into a stack of frames are one frame, and those below it are as they were.
use Rattle.std.proofs.Common.{◌≡◌, ℕ, ◌+◌, ◌*◌, ◌<◌, ◌≤◌, List, [], ◌∷◌, ◌++◌, length, get_or, take, drop, sym, ap, ◌∙◌, subst, arith}
use Rattle.std.proofs.Common.{length-drop, length-take-le, get_or-append-add, get_or-take}
use lib.ListN.{get_or-append}
use borrow.Rule.Slice.PartMut.{put_mid, post_of, same_len_mid}
use Rattle.engine.specs.declared.types.Frame.{Frame}
use Rattle.engine.specs.Frames.{asked_in, PutAt}

module _ (vs : List ℕ) (a x y z w : ℕ) (l : a + 4 ≤ length vs) where
  abbrev us : List ℕ
  us = x ∷ y ∷ z ∷ w ∷ []

  abbrev ws : List ℕ
  ws = put_mid a 4 vs us

  front : length (take a vs) ≡ a
  front = length-take-le a vs (omega arith)

  copied : (i j : ℕ) → i ≡ a + j → j < 4 → get_or ws i 0 ≡ get_or us j 0
  copied i j e h =
      ap (λ n. get_or ws n 0) e
      ∙ ap (λ n. get_or ws (n + j) 0) (sym front)
      ∙ get_or-append-add (take a vs) (us ++ post_of a 4 vs) j 0
      ∙ get_or-append us (post_of a 4 vs) 0 j h

  kept : (i : ℕ) → i < a → get_or ws i 0 ≡ get_or vs i 0
  kept i h = get_or-append (take a vs) (us ++ post_of a 4 vs) 0 i (omega (arith, front)) ∙ get_or-take a vs i 0 h

  long : length ws ≡ length vs
  long = same_len_mid a 4 vs us (sym (length-take-le 4 (drop a vs) (omega (arith, length-drop a vs))))

four_put : (vs : List ℕ) (d x y z w : ℕ) → 4 * d + 4 ≤ length vs →
    PutAt vs d (record { sign = x; others = y; done = z; asked = asked_in w }) (put_mid (4 * d) 4 vs (x ∷ y ∷ z ∷ w ∷ []))
four_put vs d x y z w l =
    let at = copied vs (4 * d) x y z w l in
    let below = kept vs (4 * d) x y z w l in
    record {
      long = long vs (4 * d) x y z w l;
      is = λ i. record {
        sign = at (4 * d) 0 (omega arith) (omega arith) i;
        others = at (4 * d + 1) 1 (omega arith) (omega arith) i;
        done = at (4 * d + 2) 2 (omega arith) (omega arith) i;
        asked = asked_in (at (4 * d + 3) 3 (omega arith) (omega arith) i);
      };
      below = λ e h i. record {
        sign = below (4 * e) (omega arith) i;
        others = below (4 * e + 1) (omega arith) i;
        done = below (4 * e + 2) (omega arith) i;
        asked = asked_in (below (4 * e + 3) (omega arith) i);
      };
    }

-- the same of a part of four words that came to be these
pub words_put : (vs us : List ℕ) (d k x y z w : ℕ) → k ≡ 4 → us ≡ x ∷ y ∷ z ∷ w ∷ [] → 4 * d + 4 ≤ length vs →
    PutAt vs d (record { sign = x; others = y; done = z; asked = asked_in w }) (put_mid (4 * d) k vs us)
words_put vs us d k x y z w n e l =
    let f : Frame = record { sign = x; others = y; done = z; asked = asked_in w } in
    let p : put_mid (4 * d) k vs us ≡ put_mid (4 * d) 4 vs (x ∷ y ∷ z ∷ w ∷ []) = ap (λ j. put_mid (4 * d) j vs us) n ∙ ap (put_mid (4 * d) 4 vs) e in
    subst (PutAt vs d f) (sym p) (four_put vs d x y z w l)
