-- A term tells its kind and its parts' terms, so that no slot stands for the term of a key that none holds.
use Rattle.std.proofs.Common.{◌≡◌, ℕ, zero, suc, ◌+◌, ◌-◌, ◌<◌, ◌≤◌, List, get_or, sym, refl, ap, ◌∙◌, subst, ⊎_elim, eq-or-lt_of_le, arith}
use Rattle.rewriting.specs.Terms.{Term}
use Rattle.store.specs.declared.keys.Key.{Key}
use Rattle.store.specs.Slots.{symbol_of, tag_of, arity_of, kind_of, kind_at, part_at, parts_by, node_by, node, term_of}
use Rattle.store.specs.Slots.{Shape, Shared}
use Rattle.store.specs.Keys.{FitsIn, key_term}
use Rattle.store.specs.Chains.{Holds}
use Rattle.store.proofs.Cases.{le_or_lt}
use Rattle.store.proofs.Decoding.{term_is, slot_key}

parts_tell : (d e : ℕ → Term) (p q : ℕ → ℕ) (k n j : ℕ) → parts_by d p k n ≡ parts_by e q k j →
    (n ≡ j) × ((m : ℕ) → k ≤ m → m < k + n → d (p m) ≡ e (q m))
parts_tell d e p q k zero zero h = (refl, λ m a b. absurd (omega arith))
parts_tell d e p q k zero (suc j) h = let z : ◌≡◌ {A = ℕ} 0 1 = cc in absurd (omega arith)
parts_tell d e p q k (suc n) zero h = let z : ◌≡◌ {A = ℕ} 0 1 = cc in absurd (omega arith)
parts_tell d e p q k (suc n) (suc j) h =
    let x : d (p k) ≡ e (q k) = cc in
    let y : parts_by d p (k + 1) n ≡ parts_by e q (k + 1) j = cc in
    let r = parts_tell d e p q (k + 1) n j y in (
      ap suc r.0,
      λ m a b. ⊎_elim (λ z. subst (λ (i : ℕ). d (p i) ≡ e (q i)) z x) (λ z. r.1 m (omega arith) (omega arith))
          (eq-or-lt_of_le a),
    )

node_by_tells : (d e : ℕ → Term) (p q : ℕ → ℕ) (s t n j : ℕ) → node_by d p s n ≡ node_by e q t j →
    (s ≡ t) × (n ≡ j) × ((m : ℕ) → m < n - 1 → d (p m) ≡ e (q m))
node_by_tells d e p q s t zero zero h = (cc, refl, λ m a. absurd (omega arith))
node_by_tells d e p q s t zero (suc j) h = let z : ◌≡◌ {A = ℕ} 0 1 = cc in absurd (omega arith)
node_by_tells d e p q s t (suc n) zero h = let z : ◌≡◌ {A = ℕ} 0 1 = cc in absurd (omega arith)
node_by_tells d e p q s t (suc n) (suc j) h =
    let y : parts_by d p 0 n ≡ parts_by e q 0 j = cc in
    let r = parts_tell d e p q 0 n j y in
    (cc, ap suc r.0, λ m a. r.1 m (omega arith) (omega arith))

kind_is : (k j : ℕ) → symbol_of k ≡ symbol_of j → tag_of k ≡ tag_of j → k ≡ j
unfolding symbol_of tag_of
kind_is k j a b = omega arith

pub node_tells : (d e : ℕ → Term) (k j : ℕ) (p q : ℕ → ℕ) → node d k p ≡ node e j q →
    (k ≡ j) × ((m : ℕ) → m < arity_of k → d (p m) ≡ e (q m))
unfolding node
node_tells d e k j p q h =
    let r = node_by_tells d e p q (symbol_of k) (symbol_of j) (tag_of k) (tag_of j) h in (kind_is k j r.0 r.1, r.2)

-- equal terms have equal places
pub one_place : (ws : List ℕ) (c i j : ℕ) → Shared ws c → i < c → j < c → term_of ws i ≡ term_of ws j → i ≡ j
one_place ws c i j w l m e = ⊎_elim
    (λ a. ⊎_elim (λ z. z) (λ b. absurd (w.once i j b m e)) (eq-or-lt_of_le a))
    (λ b. absurd (w.once j i b l (sym e)))
    (le_or_lt i j)

-- a slot that holds the key stands for its term
pub holds_term : (ws : List ℕ) (c i : ℕ) (key : Key) → Shape ws c → i < c → Holds ws i key → term_of ws i ≡ key_term ws key
holds_term ws c i key w l o = term_is ws c i w l
    ∙ slot_key ws ws i key o.kind (λ m a. let e : tag_of (kind_at ws i) ≡ tag_of (kind_of key.head) = ap tag_of o.kind in
    ap (λ (x : ℕ). term_of ws x) (o.parts m (omega arith)))

-- and a term that a slot stands for is held
pub unheld : (ws : List ℕ) (c : ℕ) (key : Key) → Shared ws c → FitsIn key c → ((i : ℕ) → i < c → Holds ws i key → ⊥) →
    (i : ℕ) → i < c → term_of ws i ≡ key_term ws key → ⊥
unheld ws c key w f n i l e =
    let r = node_tells (λ j. term_of ws j) (λ j. term_of ws j) (kind_at ws i) (kind_of key.head)
    (λ k. part_at ws i k) (λ k. get_or key.parts k 0) (sym (term_is ws c i w.shape l) ∙ e) in
    let t : tag_of (kind_at ws i) ≡ tag_of (kind_of key.head) = ap tag_of r.0 in
    n i l (record {
      kind = r.0;
      parts = λ k a.
          let b : part_at ws i k < i = w.shape.below i k l (omega arith) in
          one_place ws c (part_at ws i k) (get_or key.parts k 0) w (omega arith) (f.below k a) (r.1 k (omega arith));
    })
