-- Collecting: unmarked, with the buckets emptied, marked, slid down, and the notes cleared.
use Rattle.std.proofs.Common.{◌≡◌, ℕ, ◌-◌, ◌<◌, List, length, sym, ap, ◌∙◌, subst, arith}
use Rattle.rewriting.specs.Terms.{Term}
use Rattle.rewriting.specs.Rules.{Part}
use Rattle.rewriting.specs.Different.{listed}
use Rattle.rewriting.proofs.Different.{different_most, part_of_listed}
use Rattle.store.specs.Cells.{cell, Cleared}
use Rattle.store.specs.Slots.{flag_of, last_at, note_at, term_of, Shared, Alike}
use Rattle.store.specs.Chains.{Chains}
use Rattle.store.specs.Marks.{Unmarked, RootsMarked}
use Rattle.store.specs.Slides.{Moved, Slid, Collected}
use Rattle.store.proofs.Decoding.{alike, term_alike, shared_alike}
use Rattle.store.proofs.Chaining.{chains_kept}

-- unmarked in us, with the buckets emptied
module _ (vs us : List ℕ) (c e : ℕ) (w : Shared vs c) (long_u : length us ≡ length vs) (z : Unmarked vs e us) where
  like_u : Alike vs us c
  like_u = alike vs us c (λ j k l h. z.rest j k (omega arith) (λ b. omega arith))

  kept_u : (i : ℕ) → i < c → term_of us i ≡ term_of vs i
  kept_u = term_alike vs us c w.shape like_u

  pub unmarked_shared : Shared us c
  unmarked_shared = shared_alike vs us c w long_u like_u

-- marked in ws
module _ (vs us ws : List ℕ) (c e : ℕ) (q : ℕ → ℕ) (t : ℕ) (w : Shared vs c) (long_u : length us ≡ length vs) (z : Unmarked vs e us)
    (long-w : length ws ≡ length vs) (m : RootsMarked us c q t ws) where
  nodes : (j k : ℕ) → j < c → k < 5 → cell ws j k ≡ cell vs j k
  nodes j k l h = m.nodes j k (omega arith) ∙ z.rest j k (omega arith) (λ b. omega arith)

  kept : (i : ℕ) → i < c → term_of ws i ≡ term_of vs i
  kept = term_alike vs ws c w.shape (alike vs ws c nodes)

  pub ready : Shared ws c
  ready = shared_alike vs ws c w long-w (alike vs ws c nodes)

  pub emptied : (j : ℕ) → j < e → last_at ws j ≡ 0
  emptied j l = m.nodes j 6 (omega arith) ∙ z.lasts j l

  -- slid down in xs
  module _ (mask : ℕ) (xs : List ℕ) (n : ℕ) (low : (k : ℕ) → k < t → q k < c) (s : Slid ws c xs n) (ch : Chains mask xs n) where
    pub moved : (k : ℕ) → k < t → Moved ws (q k) xs n (note_at xs (q k))
    moved k l = s.to _ (low k l) (m.roots k l)

    -- the notes cleared in ys
    module _ (ys : List ℕ) (r : ℕ → ℕ) (long-y : length ys ≡ length xs) (zy : Cleared xs n 7 ys)
        (v : (k : ℕ) → k < t → r k ≡ note_at xs (q k) - 1) where
      same : (j k : ℕ) → k < 7 → cell ys j k ≡ cell xs j k
      same j k h = zy.rest j k (omega arith) (λ a n. omega arith)

      kept_y : (i : ℕ) → i < n → term_of ys i ≡ term_of xs i
      kept_y = term_alike xs ys n s.shared.shape (alike xs ys n (λ j k l h. same j k (omega arith)))

      shared_y : Shared ys n
      shared_y = shared_alike xs ys n s.shared long-y (alike xs ys n (λ j k l h. same j k (omega arith)))

      inside_y : (k : ℕ) → k < t → r k < n
      inside_y k l = let e = v k l in let y = moved k l in omega (arith, y.some, y.inside)

      wanted_y : (i : ℕ) → i < n → (k : ℕ) × (k < t) × Part (term_of ys i) (term_of vs (q k))
      wanted_y i l =
          let f = s.from i l in
          let h = m.only f.of f.old f.marked in
          let old = kept_u vs us c e w long_u z in (
            h.0,
            h.1,
            subst (λ (x : Term). Part x (term_of vs (q h.0))) (sym (kept_y i l ∙ f.term ∙ kept f.of f.old ∙ sym (old f.of f.old)))
                (subst (λ (x : Term). Part (term_of us f.of) x) (old (q h.0) (low h.0 h.1)) h.2),
          )

      kept_all : Collected vs c q t ys n r
      kept_all = record {
        shared = shared_y;
        less = s.less;
        inside = inside_y;
        term = λ k l. kept_y _ (inside_y k l) ∙ ap (λ (x : ℕ). term_of xs x) (v k l) ∙ (moved k l).term ∙ kept _ (low k l);
        was = λ i l. let f = s.from i l in record {
          of = f.of;
          old = f.old;
          term = kept_y i l ∙ f.term ∙ kept f.of f.old;
          flag = ap flag_of (same i 0 (omega arith) ∙ f.head ∙ nodes f.of 0 f.old (omega arith));
        };
        wanted = wanted_y;
        count = different_most (listed (λ k. term_of vs (q k)) t) (λ i. term_of ys i) n shared_y.once
            (λ i l. let h = wanted_y i l in part_of_listed (λ k. term_of vs (q k)) t h.0 (term_of ys i) h.1 h.2);
        notes = zy.is;
      }

      pub collected : Collected vs c q t ys n r × Chains mask ys n
      collected = (kept_all, chains_kept mask xs ys n ch s.shared.shape long-y same)
