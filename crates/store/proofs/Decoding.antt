-- What term a slot stands for, and that it stays while kinds and parts do.
use Rattle.std.proofs.Common.{◌≡◌, ℕ, zero, suc, ◌+◌, ◌-◌, ◌*◌, ◌<◌, ◌≤◌, List, length, get_or, sym, refl, ap, ◌∙◌, ⊎_elim, arith}
use Rattle.rewriting.specs.Terms.{Term, sign, and1}
use Rattle.store.specs.declared.keys.Key.{Key}
use Rattle.store.specs.Cells.{cell}
use Rattle.store.specs.Slots.{symbol_of, tag_of, arity_of, kind_of, kind_at, arity_at, part_at, parts_by, node_by, node, term_by, term_of}
use Rattle.store.specs.Slots.{Shape, Shared, Alike}
use Rattle.store.specs.Keys.{FitsIn, key_term, Added}
use Rattle.store.proofs.Cases.{last_or_below, below_next}

-- a node of the same kind and the same parts' terms is the same
pub parts_by_same : (d e : ℕ → Term) (p q : ℕ → ℕ) (k n : ℕ) → ((m : ℕ) → k ≤ m → m < k + n → d (p m) ≡ e (q m)) →
    parts_by d p k n ≡ parts_by e q k n
parts_by_same d e p q k zero h = refl
parts_by_same d e p q k (suc n) h =
    ap (λ (t : Term). and1 t (parts_by d p (k + 1) n)) (h k (omega arith) (omega arith))
    ∙ ap (and1 (e (q k))) (parts_by_same d e p q (k + 1) n (λ m a b. h m (omega arith) (omega arith)))

node_by_same : (d e : ℕ → Term) (p q : ℕ → ℕ) (s n : ℕ) → ((m : ℕ) → m < n - 1 → d (p m) ≡ e (q m)) → node_by d p s n ≡ node_by e q s n
node_by_same d e p q s zero h = refl
node_by_same d e p q s (suc n) h = ap (sign s) (parts_by_same d e p q 0 n (λ m a b. h m (omega arith)))

pub node_same : (d e : ℕ → Term) (i j : ℕ) (p q : ℕ → ℕ) → i ≡ j → ((m : ℕ) → m < arity_of i → d (p m) ≡ e (q m)) →
    node d i p ≡ node e j q
unfolding node
node_same d e i j p q z h = node_by_same d e p q (symbol_of i) (tag_of i) h ∙ ap (λ (k : ℕ). node_by e q (symbol_of k) (tag_of k)) z

-- kinds and parts that agree below n give the same terms, by any numbers of layers that suffice
layers : (K J : ℕ → ℕ) (P Q : ℕ → ℕ → ℕ) (n : ℕ) → ((i k : ℕ) → i < n → k < arity_of (K i) → P i k < i) →
    ((i : ℕ) → i < n → K i ≡ J i) → ((i k : ℕ) → i < n → k < arity_of (K i) → P i k ≡ Q i k) →
    (f g i : ℕ) → i < n → i < f → i < g → term_by f K P i ≡ term_by g J Q i
unfolding term_by
layers K J P Q n b h w zero g i l x y = absurd (omega arith)
layers K J P Q n b h w (suc f) zero i l x y = absurd (omega arith)
layers K J P Q n b h w (suc f) (suc g) i l x y = node_same (term_by f K P) (term_by g J Q) (K i) (J i) (P i) (Q i) (h i l)
    (λ m a. let p : P i m < i = b i m l a in
    layers K J P Q n b h w f g (P i m) (omega arith) (omega arith) (omega arith) ∙ ap (λ (z : ℕ). term_by g J Q z) (w i m l a))

-- the term of a slot is the node of its kind and its parts' terms
pub term_is : (ws : List ℕ) (c i : ℕ) → Shape ws c → i < c →
    term_of ws i ≡ node (λ j. term_of ws j) (kind_at ws i) (λ k. part_at ws i k)
unfolding term_by term_of
term_is ws c i w l =
    let K : ℕ → ℕ = λ j. kind_at ws j in
    let P : ℕ → ℕ → ℕ = λ j k. part_at ws j k in
    node_same (term_by i K P) (λ j. term_by (suc j) K P j) (K i) (K i) (P i) (P i) refl
    (λ m a. let p : P i m < i = w.below i m l a in
    layers K K P P c w.below (λ i l. refl) (λ i k l a. refl) i (suc (P i m)) (P i m) (omega arith) (omega arith) (omega arith))

-- which is a key's term where kind and parts' terms are the key's
pub slot_key : (vs ws : List ℕ) (i : ℕ) (key : Key) → kind_at ws i ≡ kind_of key.head →
    ((m : ℕ) → m < arity_at ws i → term_of ws (part_at ws i m) ≡ term_of vs (get_or key.parts m 0)) →
    node (λ j. term_of ws j) (kind_at ws i) (λ k. part_at ws i k) ≡ key_term vs key
slot_key vs ws i key e h = node_same (λ j. term_of ws j) (λ j. term_of vs j) (kind_at ws i) (kind_of key.head)
    (λ k. part_at ws i k) (λ k. get_or key.parts k 0) e h

-- slots with the same kinds and parts
pub alike : (vs ws : List ℕ) (c : ℕ) → ((j k : ℕ) → j < c → k < 5 → cell ws j k ≡ cell vs j k) → Alike vs ws c
alike vs ws c s = record { kinds = λ j l. ap kind_of (s j 0 l (omega arith)); parts = λ j k l m. s j (k + 1) l (omega arith) }

module _ (vs ws : List ℕ) (c : ℕ) (w : Shape vs c) (s : Alike vs ws c) where
  pub term_alike : (i : ℕ) → i < c → term_of ws i ≡ term_of vs i
  unfolding term_of
  term_alike i l = sym (layers (λ j. kind_at vs j) (λ j. kind_at ws j) (λ j k. part_at vs j k) (λ j k. part_at ws j k) c w.below
      (λ i l. sym (s.kinds i l))
      (λ i k l a. let t : tag_of (kind_at vs i) ≤ 5 = w.tags i l in sym (s.parts i k l (omega arith)))
      (suc i) (suc i) i l (omega arith) (omega arith))

  pub shape_alike : length ws ≡ length vs → Shape ws c
  shape_alike l =
      let tag : (i : ℕ) → i < c → tag_of (kind_at ws i) ≡ tag_of (kind_at vs i) = λ i h. ap tag_of (s.kinds i h) in
      record {
        fits = omega (arith, w.fits);
        tags = λ i h. omega (arith, tag i h, w.tags i h);
        below = λ i k h a. let t = tag i h in let u = w.tags i h in
            let b = w.below i k h (omega arith) in let e = s.parts i k h (omega arith) in omega arith;
      }

pub shared_alike : (vs ws : List ℕ) (c : ℕ) → Shared vs c → length ws ≡ length vs → Alike vs ws c → Shared ws c
shared_alike vs ws c w l s = record {
  shape = shape_alike vs ws c w.shape s l;
  once = λ i j a b e. w.once i j a b
      (sym (term_alike vs ws c w.shape s i (omega arith)) ∙ e ∙ term_alike vs ws c w.shape s j b);
}

-- one more slot
module _ (vs ws : List ℕ) (n : ℕ) (key : Key) (w : Shape vs n) (r : Added vs n key ws) (fits : 16 * (n + 1) ≤ length ws)
    (f : FitsIn key n) where
  kind : kind_at ws n ≡ kind_of key.head
  kind = ap kind_of r.head

  tag : tag_of (kind_at ws n) ≡ tag_of (kind_of key.head)
  tag = ap tag_of kind

  tag_old : (j : ℕ) → j < n → tag_of (kind_at ws j) ≡ tag_of (kind_at vs j)
  tag_old j m = ap tag_of (ap kind_of (r.nodes j 0 m (omega arith)))

  pub shape_added : Shape ws (n + 1)
  shape_added = record {
    fits = fits;
    tags = below_next (λ j. tag_of (kind_at ws j) ≤ 5) n
        (λ j m. let t = tag_old j m in let u = w.tags j m in omega arith)
        (let t = tag in let u = key.few in omega arith);
    below = λ i k l. below_next (λ j. k < arity_at ws j → part_at ws j k < j) n
        (λ j m a. let t = tag_old j m in let u = w.tags j m in
        let b = w.below j k m (omega arith) in let q = r.nodes j (k + 1) m (omega arith) in omega arith)
        (λ a. let t = tag in let u = key.few in let b = f.below k (omega arith) in let q = r.parts k (omega arith) in omega arith) i l;
  }

  pub stays : (i : ℕ) → i < n → term_of ws i ≡ term_of vs i
  stays = term_alike vs ws n w (alike vs ws n r.nodes)

  pub added_is : term_of ws n ≡ key_term vs key
  added_is = term_is ws (n + 1) n shape_added (omega arith)
      ∙ slot_key vs ws n key kind (λ m a. let t = tag in let u = key.few in
      ap (λ (x : ℕ). term_of ws x) (r.parts m (omega arith)) ∙ stays (get_or key.parts m 0) (f.below m (omega arith)))

  -- for a term that was not there
  pub shared_added : ((i j : ℕ) → i < j → j < n → term_of vs i ≡ term_of vs j → ⊥) →
      ((i : ℕ) → i < n → term_of vs i ≡ key_term vs key → ⊥) → Shared ws (n + 1)
  shared_added o g = record {
    shape = shape_added;
    once = λ i j a b e. ⊎_elim
        (λ z. g i (omega arith) (sym (stays i (omega arith)) ∙ e ∙ ap (λ (x : ℕ). term_of ws x) z ∙ added_is))
        (λ z. o i j a z (sym (stays i (omega arith)) ∙ e ∙ stays j z))
        (last_or_below j n b);
  }
