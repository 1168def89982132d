-- Sliding: the marked slots below i are the first n, and one more of them follows.
use Rattle.std.proofs.Common.{◌≡◌, ℕ, ◌+◌, ◌-◌, ◌*◌, ◌<◌, ◌≤◌, List, length, get_or, sym, refl, ap, ◌∙◌, subst, arith}
use Rattle.store.specs.declared.keys.Key.{Key}
use Rattle.store.specs.Cells.{cell, CellPut}
use Rattle.store.specs.Slots.{tag_of, kind_of, kind_at, arity_at, part_at, note_at, term_of, Shared}
use Rattle.store.specs.Keys.{FitsIn, key_term, Added}
use Rattle.store.specs.Chains.{Chains, Pushed}
use Rattle.store.specs.Marks.{Marked, Closed}
use Rattle.store.specs.Slides.{Translated, Moved, Came, Slid}
use Rattle.store.proofs.Cases.{below_next}
use Rattle.store.proofs.Decoding.{node_same, term_is, stays, added_is, shared_added, shape_added}
use Rattle.store.proofs.Chaining.{added, chains_added, chains_kept}

came_later : (vs : List ℕ) (i : ℕ) (ws : List ℕ) (m : ℕ) (xs : List ℕ) → Came vs i ws m →
    cell xs m 0 ≡ cell ws m 0 → term_of xs m ≡ term_of ws m → Came vs (i + 1) xs m
came_later vs i ws m xs f h t = record {
  of = f.of;
  old = omega (arith, f.old);
  marked = f.marked;
  head = h ∙ f.head;
  term = t ∙ f.term;
}

pub slide_skip : (vs : List ℕ) (i : ℕ) (ws : List ℕ) (n : ℕ) → Slid vs i ws n → note_at ws i ≡ 0 → Slid vs (i + 1) ws n
slide_skip vs i ws n s z = record {
  less = omega (arith, s.less);
  high = λ j k l m. s.high j k (omega arith) m;
  ahead = λ j l. s.ahead j (omega arith);
  shared = s.shared;
  to = below_next (λ j. Marked vs j → Moved vs j ws n (note_at ws j)) i s.to
      (λ h. absurd (h (sym (s.ahead i (omega arith)) ∙ z)));
  from = λ m l. came_later vs i ws m ws (s.from m l) refl refl;
}

-- slot i, marked, is pushed as slot n into xs, and its note in ys says so
module _ (vs : List ℕ) (c : ℕ) (w : Shared vs c) (cl : Closed vs c) (i : ℕ) (ws : List ℕ) (n : ℕ) (s : Slid vs i ws n) (lt : i < c)
    (marked : Marked ws i) (key : Key) (t : Translated ws i key) (mask : ℕ) (xs ys : List ℕ) (r : Pushed mask ws n key xs)
    (p : CellPut xs i 7 (n + 1) ys) (long-w : length ws ≡ length vs) (long_x : length xs ≡ length vs) (long-y : length ys ≡ length vs)
    (ch : Chains mask ws n) where
  was_marked : Marked vs i
  was_marked z = marked (s.ahead i (omega arith) ∙ z)

  kind_was : kind_at ws i ≡ kind_at vs i
  kind_was = ap kind_of (s.high i 0 (omega arith) (omega arith))

  key_kind : kind_of key.head ≡ kind_at vs i
  key_kind = ap kind_of t.head ∙ kind_was

  tag_was : tag_of (kind_at ws i) ≡ tag_of (kind_at vs i)
  tag_was = ap tag_of kind_was

  key_tag : tag_of (kind_of key.head) ≡ tag_of (kind_at vs i)
  key_tag = ap tag_of key_kind

  five : tag_of (kind_at vs i) ≤ 5
  five = w.shape.tags i lt

  part_to : (k : ℕ) → k < arity_at vs i → Moved vs (part_at vs i k) ws n (note_at ws (part_at vs i k))
  part_to k a = s.to (part_at vs i k) (w.shape.below i k lt a) (cl i k lt was_marked a)

  key_part : (k : ℕ) → k < arity_at vs i → get_or key.parts k 0 ≡ note_at ws (part_at vs i k) - 1
  key_part k a = let e = tag_was in let u = five in
      t.parts k (omega arith) ∙ ap (λ (x : ℕ). note_at ws x - 1) (s.high i (k + 1) (omega arith) (omega arith))

  key_fits : FitsIn key n
  key_fits = record {
    below = λ k a. let e = key_tag in let b : k < arity_at vs i = omega arith in
        let q = key_part k b in let m = part_to k b in omega (arith, m.some, m.inside);
  }

  key_is : key_term ws key ≡ term_of vs i
  key_is = node_same (λ j. term_of ws j) (λ j. term_of vs j) (kind_of key.head) (kind_at vs i)
      (λ k. get_or key.parts k 0) (λ k. part_at vs i k) key_kind
      (λ k a. let e = key_tag in let b : k < arity_at vs i = omega arith in
      ap (λ (x : ℕ). term_of ws x) (key_part k b) ∙ (part_to k b).term)
      ∙ sym (term_is vs c i w.shape lt)

  same : (j k : ℕ) → k < 7 → cell ys j k ≡ cell xs j k
  same j k h = p.rest j k (omega arith) (λ a b. omega arith)

  add : Added ws n key ys
  add = record {
    nodes = λ j k l m. same j k (omega arith) ∙ r.nodes j k (omega arith) (λ e. omega arith);
    head = same n 0 (omega arith) ∙ r.head;
    parts = λ k l. same n (k + 1) (omega arith) ∙ r.parts k l;
  }

  fits_x : 16 * (n + 1) ≤ length xs
  fits_x = omega (arith, w.shape.fits, s.less)

  fits_y : 16 * (n + 1) ≤ length ys
  fits_y = omega (arith, w.shape.fits, s.less)

  now_is : term_of ys n ≡ term_of vs i
  now_is = added_is ws ys n key s.shared.shape add fits_y key_fits ∙ key_is

  head_is : cell ys n 0 ≡ cell vs i 0
  head_is = add.head ∙ t.head ∙ s.high i 0 (omega arith) (omega arith)

  still : (m : ℕ) → m < n → term_of ys m ≡ term_of ws m
  still = stays ws ys n key s.shared.shape add fits_y key_fits

  to_old : (j : ℕ) → j < i → Marked vs j → Moved vs j ys (n + 1) (note_at ys j)
  to_old j h v = let m = s.to j h v in
      let e : note_at ys j ≡ note_at ws j = p.rest j 7 (omega arith) (λ a b. omega arith) ∙ r.notes j in
      let b : note_at ws j - 1 < n = omega (arith, m.some, m.inside) in
      subst (λ (x : ℕ). Moved vs j ys (n + 1) x) (sym e)
      (record {
        some = m.some;
        inside = omega (arith, m.inside);
        head = add.nodes (note_at ws j - 1) 0 b (omega arith) ∙ m.head;
        term = still _ b ∙ m.term;
      })

  to_new : Marked vs i → Moved vs i ys (n + 1) (note_at ys i)
  to_new v = subst (λ (x : ℕ). Moved vs i ys (n + 1) x) (sym p.is)
      (let e : n + 1 - 1 ≡ n = omega arith in
      record {
        some = omega arith;
        inside = omega arith;
        head = ap (λ (x : ℕ). cell ys x 0) e ∙ head_is;
        term = ap (λ (x : ℕ). term_of ys x) e ∙ now_is;
      })

  slid_more : Slid vs (i + 1) ys (n + 1)
  slid_more = record {
    less = omega (arith, s.less);
    high = λ j k h m. same j k (omega arith) ∙ r.nodes j k m (λ e. omega (arith, s.less)) ∙ s.high j k (omega arith) m;
    ahead = λ j h. p.rest j 7 (omega arith) (λ a b. omega arith) ∙ r.notes j ∙ s.ahead j (omega arith);
    shared = shared_added ws ys n key s.shared.shape add fits_y key_fits s.shared.once
        (λ m h e. let f = s.from m h in w.once f.of i f.old lt (sym f.term ∙ e ∙ key_is));
    to = below_next (λ j. Marked vs j → Moved vs j ys (n + 1) (note_at ys j)) i to_old to_new;
    from = below_next (λ m. Came vs (i + 1) ys m) n
        (λ m h. came_later vs i ws m ys (s.from m h) (add.nodes m 0 h (omega arith)) (still m h))
        (record { of = i; old = omega arith; marked = was_marked; head = head_is; term = now_is });
  }

  pub slide_step : Slid vs (i + 1) ys (n + 1) × Chains mask ys (n + 1)
  slide_step = (
    slid_more,
    chains_kept mask xs ys (n + 1)
        (chains_added mask ws n key xs ch s.shared.shape key_fits r (omega (arith, ch.fits)))
        (shape_added ws xs n key s.shared.shape (added mask ws n key xs r) fits_x key_fits) (omega arith) same,
  )
