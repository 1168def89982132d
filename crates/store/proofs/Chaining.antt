-- Chains: searching along them, and what keeps them or makes them longer.
use Rattle.std.proofs.Common.{◌≡◌, ℕ, zero, suc, ◌+◌, ◌-◌, ◌/◌, ◌%◌, ◌<◌, ◌≤◌, List, length, get_or, sym, refl, ap, ◌∙◌, subst, ⊎_elim}
use Rattle.std.proofs.Common.{eq-or-lt_of_le, arith}
use lib.Bits.{bit_and}
use Rattle.store.specs.declared.keys.Key.{Key}
use Rattle.store.specs.Cells.{cell, HasSlot}
use Rattle.store.specs.Slots.{tag_of, arity_of, kind_of, kind_at, part_at, link_at, last_at, Shape, Alike}
use Rattle.store.specs.Keys.{FitsIn, Added}
use Rattle.store.specs.Chains.{mix_of, hash_of, bucket_by, bucket_of, bucket_at, key_bucket, Last, Chains, Holds, Searched, Pushed}
use Rattle.store.proofs.Cases.{le_or_lt, eq_or, last_or_below}
use Rattle.store.proofs.Decoding.{alike}

-- the same kind and parts: the same bucket
hash_same : (h : ℕ) (p q : ℕ → ℕ) (n : ℕ) → ((m : ℕ) → m < n → p m ≡ q m) → hash_of h p n ≡ hash_of h q n
hash_same h p q zero e = refl
hash_same h p q (suc n) e =
    ap (λ (x : ℕ). mix_of x (p n)) (hash_same h p q n (λ m l. e m (omega arith))) ∙ ap (mix_of (hash_of h q n)) (e n (omega arith))

parts_bucket : (mask k : ℕ) (p q : ℕ → ℕ) (n : ℕ) → ((m : ℕ) → m < n → p m ≡ q m) → bucket_by mask k p n ≡ bucket_by mask k q n
parts_bucket mask k p q zero h = refl
parts_bucket mask k p q (suc n) h =
    ap (λ (x : ℕ). bit_and ((x + hash_of (mix_of k 0) (λ i. p (suc i)) n / 4294967296) % 18446744073709551616) mask) (h 0 (omega arith))
    ∙ ap (λ (x : ℕ). bit_and ((q 0 + x / 4294967296) % 18446744073709551616) mask)
    (hash_same (mix_of k 0) (λ i. p (suc i)) (λ i. q (suc i)) n (λ m l. h (suc m) (omega arith)))

pub bucket_same : (mask k j : ℕ) (p q : ℕ → ℕ) → k ≡ j → ((m : ℕ) → m < arity_of k → p m ≡ q m) → bucket_of mask k p ≡ bucket_of mask j q
unfolding bucket_of
bucket_same mask k j p q e h = parts_bucket mask k p q (arity_of k) h ∙ ap (λ (x : ℕ). bucket_by mask x q (arity_of x)) e

-- the bucket as it is found: by the kind alone where there are no parts, else by the first and a hash of the others
pub bucket_no_parts : (mask k n : ℕ) (p : ℕ → ℕ) → n ≡ 0 → bit_and (mix_of k 0 / 4294967296) mask ≡ bucket_by mask k p n
bucket_no_parts mask k zero p e = refl
bucket_no_parts mask k (suc n) p e = absurd (omega arith)

pub bucket_parts : (mask k n g m : ℕ) (p q : ℕ → ℕ) → n ≡ suc m → ((i : ℕ) → i < m → q i ≡ p (suc i)) → g ≡ hash_of (mix_of k 0) q m →
    bit_and ((p 0 + g / 4294967296) % 18446744073709551616) mask ≡ bucket_by mask k p n
bucket_parts mask k n g m p q e o h =
    ap (λ (x : ℕ). bit_and ((p 0 + x / 4294967296) % 18446744073709551616) mask)
    (h ∙ hash_same (mix_of k 0) q (λ i. p (suc i)) m o)
    ∙ ap (bucket_by mask k p) (sym e)

holds_bucket : (mask : ℕ) (ws : List ℕ) (j : ℕ) (key : Key) → Holds ws j key → bucket_at mask ws j ≡ key_bucket mask key
holds_bucket mask ws j key o = bucket_same mask (kind_at ws j) (kind_of key.head) (λ k. part_at ws j k) (λ k. get_or key.parts k 0)
    o.kind
    (λ m l. let e : tag_of (kind_at ws j) ≡ tag_of (kind_of key.head) = ap tag_of o.kind in o.parts m (omega arith))

-- a search along a chain, from its last slot on
pub search_start : (mask : ℕ) (ws : List ℕ) (c : ℕ) (key : Key) (b f : ℕ) → b ≡ key_bucket mask key → Last mask ws b c f →
    Searched mask ws c key f
search_start mask ws c key b f e t = record {
  low = t.low;
  not = λ j l m o. let z : j < f = t.all j m (holds_bucket mask ws j key o ∙ sym e) in omega arith;
  mem = λ l. t.mem l ∙ e;
}

pub search_more : (mask : ℕ) (ws : List ℕ) (c : ℕ) (key : Key) (f i g : ℕ) → f ≡ i + 1 → Searched mask ws c key f →
    (Holds ws i key → ⊥) → Last mask ws (bucket_at mask ws i) i g → Searched mask ws c key g
search_more mask ws c key f i g d s n t =
    let z : f - 1 ≡ i = omega arith in
    let mem : bucket_at mask ws i ≡ key_bucket mask key = subst (λ (x : ℕ). bucket_at mask ws x ≡ key_bucket mask key) z
    (s.mem (omega arith)) in
    record {
      low = omega (arith, s.low, t.low);
      not = λ j l m o. ⊎_elim
          (λ a. s.not j a m o)
          (λ a. ⊎_elim (λ e. n (subst (λ (x : ℕ). Holds ws x key) e o))
          (λ b. let y : j < g = t.all j b (holds_bucket mask ws j key o ∙ sym mem) in omega arith)
          (eq-or-lt_of_le (let y : j ≤ i = omega arith in y)))
          (le_or_lt f j);
      mem = λ l. t.mem l ∙ mem;
    }

last_kept : (mask : ℕ) (vs ws : List ℕ) (b n f : ℕ) → ((j : ℕ) → j < n → bucket_at mask ws j ≡ bucket_at mask vs j) →
    Last mask vs b n f → Last mask ws b n f
last_kept mask vs ws b n f s t = record {
  low = t.low;
  all = λ j l e. t.all j l (sym (s j l) ∙ e);
  mem = λ l. s (f - 1) (omega (arith, t.low)) ∙ t.mem l;
}

-- slots with the same kinds and parts are in the same buckets
same_bucket : (mask : ℕ) (vs ws : List ℕ) (n j : ℕ) → Shape vs n → Alike vs ws n → j < n → bucket_at mask ws j ≡ bucket_at mask vs j
same_bucket mask vs ws n j w s l = sym (bucket_same mask (kind_at vs j) (kind_at ws j) (λ k. part_at vs j k) (λ k. part_at ws j k)
    (sym (s.kinds j l))
    (λ m a. let t : tag_of (kind_at vs j) ≤ 5 = w.tags j l in sym (s.parts j m l (omega arith))))

-- chains stay where kinds, parts, links and lasts do
pub chains_alike : (mask : ℕ) (vs ws : List ℕ) (n : ℕ) → Chains mask vs n → Shape vs n → length ws ≡ length vs → Alike vs ws n →
    ((b : ℕ) → last_at ws b ≡ last_at vs b) → ((i : ℕ) → link_at ws i ≡ link_at vs i) → Chains mask ws n
chains_alike mask vs ws n c w e s t k =
    let old : (j : ℕ) → j < n → bucket_at mask ws j ≡ bucket_at mask vs j = λ j l. same_bucket mask vs ws n j w s l in
    record {
      fits = omega (arith, c.fits);
      lasts = λ b l. subst (λ (v : ℕ). Last mask ws b n v) (sym (t b)) (last_kept mask vs ws b n _ old (c.lasts b l));
      links = λ i l. subst (λ (y : ℕ). Last mask ws y i (link_at ws i)) (sym (old i l))
          (subst (λ (v : ℕ). Last mask ws (bucket_at mask vs i) i v) (sym (k i))
          (last_kept mask vs ws _ i _ (λ j z. old j (omega arith)) (c.links i l)));
    }

pub chains_kept : (mask : ℕ) (vs ws : List ℕ) (n : ℕ) → Chains mask vs n → Shape vs n → length ws ≡ length vs →
    ((j k : ℕ) → k < 7 → cell ws j k ≡ cell vs j k) → Chains mask ws n
chains_kept mask vs ws n c w e s = chains_alike mask vs ws n c w e (alike vs ws n (λ j k l m. s j k (omega arith)))
    (λ b. s b 6 (omega arith)) (λ i. s i 5 (omega arith))

pub added : (mask : ℕ) (vs : List ℕ) (n : ℕ) (key : Key) (ws : List ℕ) → Pushed mask vs n key ws → Added vs n key ws
added mask vs n key ws p = record { nodes = λ j k l m. p.nodes j k (omega arith) (λ e. omega arith); head = p.head; parts = p.parts }

-- one more slot
module _ (mask : ℕ) (vs : List ℕ) (n : ℕ) (key : Key) (ws : List ℕ) (c : Chains mask vs n) (w : Shape vs n) (f : FitsIn key n)
    (p : Pushed mask vs n key ws) (fits : HasSlot ws mask) where
  old : (j : ℕ) → j < n → bucket_at mask ws j ≡ bucket_at mask vs j
  old j l = same_bucket mask vs ws n j w (alike vs ws n (λ j k l m. p.nodes j k (omega arith) (λ e. omega arith))) l

  new : bucket_at mask ws n ≡ key_bucket mask key
  new = bucket_same mask (kind_at ws n) (kind_of key.head) (λ k. part_at ws n k) (λ k. get_or key.parts k 0) (ap kind_of p.head)
      (λ m a. let e : tag_of (kind_at ws n) ≡ tag_of (kind_of key.head) = ap tag_of (ap kind_of p.head) in
      p.parts m (omega (arith, key.few)))

  own_last : Last mask ws (key_bucket mask key) (n + 1) (last_at ws (key_bucket mask key))
  own_last = subst (λ (v : ℕ). Last mask ws (key_bucket mask key) (n + 1) v) (sym p.last)
      (record {
        low = omega arith;
        all = λ j a z. a;
        mem = λ a. let q : n + 1 - 1 ≡ n = omega arith in ap (bucket_at mask ws) q ∙ new;
      })

  other_last : (b : ℕ) → b ≤ mask → (b ≡ key_bucket mask key → ⊥) → Last mask ws b (n + 1) (last_at ws b)
  other_last b l ne = subst (λ (v : ℕ). Last mask ws b (n + 1) v) (sym (p.lasts b ne))
      (let t = last_kept mask vs ws b n (last_at vs b) old (c.lasts b l) in
      record {
        low = omega (arith, t.low);
        mem = t.mem;
        all = λ j a z. ⊎_elim (λ q. absurd (ne (sym z ∙ ap (bucket_at mask ws) q ∙ new))) (λ q. t.all j q z) (last_or_below j n a);
      })

  lasts_now : (b : ℕ) → b ≤ mask → Last mask ws b (n + 1) (last_at ws b)
  lasts_now b l = ⊎_elim
      (λ e. subst (λ (y : ℕ). Last mask ws y (n + 1) (last_at ws y)) (sym e) own_last)
      (λ ne. other_last b l ne)
      (eq_or b (key_bucket mask key))

  links_now : (i : ℕ) → i < n + 1 → Last mask ws (bucket_at mask ws i) i (link_at ws i)
  links_now i l = ⊎_elim
      (λ e. subst (λ (y : ℕ). Last mask ws (bucket_at mask ws y) y (link_at ws y)) (sym e)
      (subst (λ (y : ℕ). Last mask ws y n (link_at ws n)) (sym new)
      (subst (λ (v : ℕ). Last mask ws (key_bucket mask key) n v) (sym p.link) (last_kept mask vs ws _ n _ old (c.lasts _ p.low)))))
      (λ a. subst (λ (y : ℕ). Last mask ws y i (link_at ws i)) (sym (old i a))
      (subst (λ (v : ℕ). Last mask ws (bucket_at mask vs i) i v) (sym (p.nodes i 5 (omega arith) (λ e. omega arith)))
      (last_kept mask vs ws _ i _ (λ j z. old j (omega arith)) (c.links i a))))
      (last_or_below i n l)

  pub chains_added : Chains mask ws (n + 1)
  chains_added = record { fits = fits; lasts = lasts_now; links = links_now }
