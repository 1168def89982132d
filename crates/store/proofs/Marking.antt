-- Marking: what is marked, and that it is what the roots reach.
use Rattle.std.proofs.Common.{◌≡◌, ℕ, zero, suc, ◌+◌, ◌-◌, ◌<◌, ◌≤◌, List, length, sym, refl, ap, ◌∙◌, subst, ⊎_elim, eq-or-lt_of_le, arith}
use Rattle.rewriting.specs.Terms.{Term}
use Rattle.rewriting.specs.Rules.{Part, itself, in_part, Parts, in_this, in_later}
use Rattle.rewriting.proofs.Different.{part_trans}
use Rattle.store.specs.Slots.{symbol_of, tag_of, kind_of, kind_at, arity_at, part_at, note_at}
use Rattle.store.specs.Slots.{parts_by, node_by, node, term_of, Shape}
use Rattle.store.specs.Marks.{Marked, Reached, from_mark, by_part, MarkedToo, AllMarked, RootsMarked}
use Rattle.store.proofs.Cases.{eq_or}
use Rattle.store.proofs.Decoding.{term_is, term_alike, shape_alike, alike}

-- passing marks on, from the last slot down
pub mark_start : (c : ℕ) (vs : List ℕ) → AllMarked c c vs vs
mark_start c vs = record { nodes = λ j k l. refl; kept = λ j h. h; closed = λ i k l m. absurd (omega arith); only = λ j l h. from_mark l h }

pub mark_more : (c i lo : ℕ) (vs ws xs : List ℕ) → Shape vs c → i < c → AllMarked lo c vs ws → lo ≡ i + 1 → Marked ws i →
    MarkedToo (λ k. part_at ws i k) (arity_at ws i) ws xs → AllMarked i c vs xs
mark_more c i lo vs ws xs w lt a e l p =
    let tag : tag_of (kind_at ws i) ≡ tag_of (kind_at vs i) = ap tag_of (ap kind_of (a.nodes i 0 (omega arith))) in
    let five : tag_of (kind_at vs i) ≤ 5 = w.tags i lt in
    let part : (k : ℕ) → k < 4 → part_at ws i k ≡ part_at vs i k = λ k h. a.nodes i (k + 1) (omega arith) in
    let above : (j : ℕ) → i ≤ j → note_at xs j ≡ note_at ws j = λ j u. p.rest j
    (λ k h q. let b : part_at vs i k < i = w.below i k lt (omega arith) in let z = part k (omega arith) in omega arith) in
    record {
      nodes = λ j k h. p.nodes j k h ∙ a.nodes j k h;
      kept = λ j h. p.kept j (a.kept j h);
      closed = λ j k u v h t. ⊎_elim
          (λ q. subst (λ (x : ℕ). k < arity_at vs x → Marked xs (part_at vs x k)) q
          (λ t. subst (λ (y : ℕ). Marked xs y) (part k (omega arith)) (p.these k (omega arith))) t)
          (λ q. p.kept _ (a.closed j k (omega arith) v (λ z. h (above j u ∙ z)) t))
          (eq-or-lt_of_le u);
      only = λ j b h. ⊎_elim
          (λ z. let w = p.only j h (λ n. n z) in let k : w.0 < 4 = omega (arith, w.1) in
          subst (λ (x : ℕ). Reached vs c x) (sym (part w.0 k) ∙ w.2) (by_part w.0 (a.only i lt l) (omega (arith, w.1))))
          (λ n. a.only j b n) (eq_or (note_at ws j) 0);
    }

-- what is reached stands for parts of what is marked
parts_in : (d : ℕ → Term) (p : ℕ → ℕ) (k n m : ℕ) → m < n → Parts (d (p (k + m))) (parts_by d p k n)
parts_in d p k zero m l = absurd (omega arith)
parts_in d p k (suc n) zero l =
    let e : k ≡ k + 0 = omega arith in subst (λ (x : ℕ). Parts (d (p x)) (parts_by d p k (suc n))) e (in_this itself)
parts_in d p k (suc n) (suc m) l = let e : k + 1 + m ≡ k + suc m = omega arith in
    in_later (subst (λ (x : ℕ). Parts (d (p x)) (parts_by d p (k + 1) n)) e (parts_in d p (k + 1) n m (omega arith)))

node_part : (d : ℕ → Term) (p : ℕ → ℕ) (s n k : ℕ) → k < n - 1 → Part (d (p k)) (node_by d p s n)
node_part d p s zero k l = absurd (omega arith)
node_part d p s (suc n) k l = let e : 0 + k ≡ k = omega arith in
    in_part (subst (λ (x : ℕ). Parts (d (p x)) (parts_by d p 0 n)) e (parts_in d p 0 n k (omega arith)))

pub slot_part : (ws : List ℕ) (c i k : ℕ) → Shape ws c → i < c → k < arity_at ws i → Part (term_of ws (part_at ws i k)) (term_of ws i)
unfolding node
slot_part ws c i k w l a = subst (λ (t : Term). Part (term_of ws (part_at ws i k)) t) (sym (term_is ws c i w l))
    (node_part (λ j. term_of ws j) (λ m. part_at ws i m) (symbol_of (kind_at ws i)) (tag_of (kind_at ws i)) k a)

record From (ws : List ℕ) (c : ℕ) (i : ℕ) : Type 0 where
  lt : i < c
  of : ℕ
  old : of < c
  marked : Marked ws of
  part : Part (term_of ws i) (term_of ws of)

reached_part : (ws : List ℕ) (c : ℕ) (i : ℕ) → Shape ws c → Reached ws c i → From ws c i
reached_part ws c i w (from_mark l h) = record { lt = l; of = i; old = l; marked = h; part = itself }
reached_part ws c _ w (by_part {i = i} k r t) =
    let f = reached_part ws c i w r in
    let b : part_at ws i k < i = w.below i k f.lt t in
    record {
      lt = omega (arith, f.lt);
      of = f.of;
      old = f.old;
      marked = f.marked;
      part = part_trans (slot_part ws c i k w f.lt t) f.part;
    }

-- nothing is marked in us, roots are in xs, and parts in ws
pub roots_marked : (us xs ws : List ℕ) (c : ℕ) (q : ℕ → ℕ) (t : ℕ) → Shape us c → length xs ≡ length us →
    ((j : ℕ) → j < c → note_at us j ≡ 0) → MarkedToo q t us xs → AllMarked 0 c xs ws → RootsMarked us c q t ws
roots_marked us xs ws c q t w e z a m =
    let like = alike us xs c (λ j k l h. a.nodes j k (omega arith)) in
    let sx : Shape xs c = shape_alike us xs c w like e in
    let kept : (i : ℕ) → i < c → term_of xs i ≡ term_of us i = term_alike us xs c w like in
    record {
      nodes = λ j k l. m.nodes j k l ∙ a.nodes j k l;
      closed = λ i k l h b. let u = sx.tags i l in
          let tag : tag_of (kind_at ws i) ≡ tag_of (kind_at xs i) = ap tag_of (ap kind_of (m.nodes i 0 (omega arith))) in
          subst (λ (x : ℕ). Marked ws x) (sym (m.nodes i (k + 1) (omega arith))) (m.closed i k (omega arith) l h (omega arith));
      roots = λ k l. m.kept _ (a.these k l);
      only = λ j l h.
          let g = reached_part xs c j sx (m.only j l h) in
          let r = a.only g.of g.marked (λ y. y (z g.of g.old)) in (
            r.0,
            r.1,
            subst (λ (x : ℕ). Part (term_of us j) (term_of us x)) (sym r.2)
                (subst (λ (x : Term). Part (term_of us j) x) (kept g.of g.old)
                (subst (λ (x : Term). Part x (term_of xs g.of)) (kept j l) g.part)),
          );
    }
