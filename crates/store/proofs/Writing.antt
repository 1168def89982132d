-- Two words written are a number, which is a cell's or a root's, and leave the others as they were.
use Rattle.std.proofs.Common.{◌≡◌, ℕ, ◌+◌, ◌*◌, ◌/◌, ◌%◌, ◌<◌, ◌≤◌, ◌≢◌, List, length, get_or, set, arith, length-set, get_or-set_other}
use Rattle.std.proofs.Common.{get_or-set_same, zero, suc, ap, ◌∙◌, refl, [], ◌∷◌}
use borrow.Rule.Slice.PartMut.{put_mid}
use Rattle.store.specs.Numbers.{number_in, NumberPut}
use Rattle.store.specs.Cells.{cell, CellPut}
use Rattle.store.specs.Roots.{root_at, RootPut}

pub two_words : (vs : List ℕ) (a v : ℕ) → a + 2 ≤ length vs →
    NumberPut vs a v (set (set vs a (v % 4294967296)) (a + 1) (v / 4294967296))
unfolding number_in
two_words vs a v l =
    let us = set vs a (v % 4294967296) in
    let long : length us ≡ length vs = simp length-set in
    let low : get_or (set us (a + 1) (v / 4294967296)) a 0 ≡ v % 4294967296 =
    let ne : a ≢ a + 1 = (λ e. omega arith) in let lt : a < length vs = omega arith in rw get_or-set_other (rw get_or-set_same) in
    let high : get_or (set us (a + 1) (v / 4294967296)) (a + 1) 0 ≡ v / 4294967296 =
    let lt : a + 1 < length us = omega arith in rw get_or-set_same in
    record { is = omega arith; rest = λ b n m. rw get_or-set_other (rw get_or-set_other) }

two_in : (vs : List ℕ) (a x y : ℕ) → a + 2 ≤ length vs → put_mid a 2 vs (x ∷ y ∷ []) ≡ set (set vs a x) (suc a) y
two_in [] a x y l = absurd (omega arith)
two_in (v ∷ []) zero x y l = absurd (omega arith)
two_in (v ∷ w ∷ ws) zero x y l = refl
two_in (v ∷ vs) (suc a) x y l = ap (λ us. v ∷ us) (two_in vs a x y (omega arith))

-- two words copied to a part of two are put there one by one
pub two_copied : (vs us : List ℕ) (a k x y : ℕ) → k ≡ 2 → us ≡ x ∷ y ∷ [] → a + 2 ≤ length vs →
    put_mid a k vs us ≡ set (set vs a x) (a + 1) y
two_copied vs us a k x y n e l =
    let next : suc a ≡ a + 1 = omega arith in
    ap (λ j. put_mid a j vs us) n ∙ ap (λ xs. put_mid a 2 vs xs) e ∙ two_in vs a x y l ∙ ap (λ j. set (set vs a x) j y) next

pub put_cell : (vs : List ℕ) (i k v : ℕ) (ws : List ℕ) → k < 8 → NumberPut vs (16 * i + 2 * k) v ws → CellPut vs i k v ws
unfolding cell number_in
put_cell vs i k v ws h p = record {
  is = p.is;
  rest = λ j m g n.
      let ne : 8 * j + m ≢ 8 * i + k = (λ e. n (omega arith) (omega arith)) in
      let low = p.rest (16 * j + 2 * m) (λ e. ne (omega arith)) (λ e. omega arith) in
      let high = p.rest (16 * j + 2 * m + 1) (λ e. omega arith) (λ e. ne (omega arith)) in
      omega arith;
}

pub put_root : (qs : List ℕ) (i v : ℕ) (rs : List ℕ) → NumberPut qs (2 * i) v rs → RootPut qs i v rs
unfolding root_at number_in
put_root qs i v rs p = record {
  is = p.is;
  rest = λ j n.
      let low = p.rest (2 * j) (λ e. n (omega arith)) (λ e. omega arith) in
      let high = p.rest (2 * j + 1) (λ e. omega arith) (λ e. n (omega arith)) in
      omega arith;
}
