-- The number of different parts is the greatest number of parts that differ, and at most the size.
use mathlib.Core.Path.{◌≡◌, refl, sym, ◌∙◌, ap, subst}
use mathlib.Core.Logic.{◌⊎◌, ⊎_elim}
use mathlib.Core.Bool.{Bool, true, false, ◌&&◌, ◌||◌, cond}
use mathlib.Core.List.{List, [], ◌∷◌, ◌++◌}
use Prim.Native.Nat.{ℕ, zero, suc, ◌+◌, ◌<◌, ◌≤◌}
use native.Mathlib.Omega.{arith}
use native.Mathlib.Nat.{eq-or-lt_of_le}
use lib.Dec.{eqb}
use lib.ListN.{length, get_or, length-append}
use borrow.Author.Tests.{eqb-true, eq-eqb, clash}
use Rattle.rewriting.specs.Terms.{Term, letter, sign, Terms, none1, and1, size, sizes}
use Rattle.rewriting.specs.Rules.{Part, itself, in_part, Parts, in_this, in_later}
use Rattle.rewriting.specs.Different.{same_term, same_terms, subterms, inner_subterms, all_subterms, among, once, different}
use Rattle.rewriting.specs.Different.{PartOf, of_first, of_later, Apart, listed, DifferentCounts}
use Rattle.rewriting.proofs.Members.{Mem, first, later, pigeon, mem_left, mem_right, mem_split, mem_at}

-- the test tells whether two terms are one
and_left : (a b : Bool) → (a && b) ≡ true → a ≡ true
and_left true b e = refl
and_left false b e = e

and_right : (a b : Bool) → (a && b) ≡ true → b ≡ true
and_right true b e = e
and_right false b e = absurd (clash e)

both : (a b : Bool) → a ≡ true → b ≡ true → (a && b) ≡ true
both true b p q = q
both false b p q = absurd (clash p)

mutual
  same_is : (t u : Term) → same_term t u ≡ true → t ≡ u
  same_is (letter x) (letter y) e = ap letter (eqb-true x y e)
  same_is (letter x) (sign g us) e = absurd (clash e)
  same_is (sign f ts) (letter y) e = absurd (clash e)
  same_is (sign f ts) (sign g us) e =
      let p = eqb-true f g (and_left _ _ e) in let q = sames_are ts us (and_right (eqb f g) _ e) in cc

  sames_are : (ts us : Terms) → same_terms ts us ≡ true → ts ≡ us
  sames_are none1 none1 e = refl
  sames_are none1 (and1 u us) e = absurd (clash e)
  sames_are (and1 t ts) none1 e = absurd (clash e)
  sames_are (and1 t ts) (and1 u us) e =
      let p = same_is t u (and_left _ _ e) in let q = sames_are ts us (and_right (same_term t u) _ e) in cc

mutual
  same_itself : (t : Term) → same_term t t ≡ true
  same_itself (letter x) = eq-eqb x x refl
  same_itself (sign f ts) = both (eqb f f) (same_terms ts ts) (eq-eqb f f refl) (same_themselves ts)

  same_themselves : (ts : Terms) → same_terms ts ts ≡ true
  same_themselves none1 = refl
  same_themselves (and1 t ts) = both (same_term t t) (same_terms ts ts) (same_itself t) (same_themselves ts)

-- the test tells whether a term is in a list
among_mem : (u : Term) (ts : List Term) → among u ts ≡ true → Mem u ts
among_mem u [] e = absurd (clash e)
among_mem u (t ∷ ts) e = go (same_term u t) refl e (λ h. among_mem u ts h)
  where
    go : (b : Bool) → same_term u t ≡ b → (b || among u ts) ≡ true → (among u ts ≡ true → Mem u ts) → Mem u (t ∷ ts)
    go true q h r = subst (λ (x : Term). Mem u (x ∷ ts)) (same_is u t q) first
    go false q h r = later (r h)

mem_among : (u : Term) (ts : List Term) → Mem u ts → among u ts ≡ true
mem_among u [] m = elim m [ ]
mem_among u (t ∷ ts) first = ap (λ (b : Bool). b || among u ts) (same_itself u)
mem_among u (t ∷ ts) (later m) = go (same_term u t) (mem_among u ts m)
  where
    go : (b : Bool) → among u ts ≡ true → (b || among u ts) ≡ true
    go true q = refl
    go false q = q

-- a list and the list with each element once have the same members, and the second has no member twice
once_mem : (u : Term) (ts : List Term) → Mem u ts → Mem u (once ts)
once_mem u [] m = elim m [ ]
once_mem u (t ∷ ts) m = go t (among t ts) refl m (λ k. once_mem u ts k)
  where
    go : (t : Term) (b : Bool) → among t ts ≡ b → Mem u (t ∷ ts) → (Mem u ts → Mem u (once ts)) → Mem u (cond b (once ts) (t ∷ once ts))
    go t true q first r = r (among_mem u ts q)
    go t true q (later k) r = r k
    go t false q first r = first
    go t false q (later k) r = later (r k)

mem_once : (u : Term) (ts : List Term) → Mem u (once ts) → Mem u ts
mem_once u [] m = m
mem_once u (t ∷ ts) m = go t (among t ts) m (λ k. mem_once u ts k)
  where
    go : (t : Term) (b : Bool) → Mem u (cond b (once ts) (t ∷ once ts)) → (Mem u (once ts) → Mem u ts) → Mem u (t ∷ ts)
    go t true m r = later (r m)
    go t false first r = first
    go t false (later k) r = later (r k)

abbrev Unrepeated : List Term → Type 0
Unrepeated xs = Apart (λ i. get_or xs i (letter 0)) (length xs)

once_apart : (ts : List Term) → Unrepeated (once ts)
once_apart [] = λ i j a b e. omega arith
once_apart (t ∷ ts) = go (among t ts) refl (once_apart ts)
  where
    go : (b : Bool) → among t ts ≡ b → Unrepeated (once ts) → Unrepeated (cond b (once ts) (t ∷ once ts))
    go true q r i j a l e = r i j a l e
    go false q r i zero a l e = omega arith
    go false q r zero (suc j) a l e = clash (sym q ∙ mem_among t ts (mem_once t ts
        (subst (λ (x : Term). Mem x (once ts)) (sym e) (mem_at (once ts) (letter 0) j (omega arith)))))
    go false q r (suc i) (suc j) a l e = r i j (omega arith) (omega arith) e

once_less : (ts : List Term) → length (once ts) ≤ length ts
once_less [] = omega arith
once_less (t ∷ ts) = go (among t ts) (once_less ts)
  where
    go : (b : Bool) → length (once ts) ≤ length ts → length (cond b (once ts) (t ∷ once ts)) ≤ length (t ∷ ts)
    go true h = omega arith
    go false h = omega arith

-- the members of the list of subterms are the parts
subterms_itself : (t : Term) → Mem t (subterms t)
subterms_itself (letter x) = first
subterms_itself (sign f ts) = first

mutual
  part_mem : {v t : Term} → Part v t → Mem v (subterms t)
  part_mem {v} itself = subterms_itself v
  part_mem (in_part p) = later (parts_mem p)

  parts_mem : {v : Term} {ts : Terms} → Parts v ts → Mem v (inner_subterms ts)
  parts_mem (in_this {ts = ts} p) = mem_left (inner_subterms ts) (part_mem p)
  parts_mem (in_later {t = t} p) = mem_right (subterms t) (parts_mem p)

mutual
  mem_part : (v t : Term) → Mem v (subterms t) → Part v t
  mem_part v (letter x) first = itself
  mem_part v (letter x) (later m) = elim m [ ]
  mem_part v (sign f ts) first = itself
  mem_part v (sign f ts) (later m) = in_part (mem_parts v ts m)

  mem_parts : (v : Term) (ts : Terms) → Mem v (inner_subterms ts) → Parts v ts
  mem_parts v none1 m = elim m [ ]
  mem_parts v (and1 t ts) m = ⊎_elim (λ k. in_this (mem_part v t k)) (λ k. in_later (mem_parts v ts k))
      (mem_split (subterms t) (inner_subterms ts) m)

part_of_mem : {v : Term} {ts : List Term} → PartOf v ts → Mem v (all_subterms ts)
part_of_mem (of_first {ts = ts} p) = mem_left (all_subterms ts) (part_mem p)
part_of_mem (of_later {t = t} p) = mem_right (subterms t) (part_of_mem p)

mem_part_of : (v : Term) (ts : List Term) → Mem v (all_subterms ts) → PartOf v ts
mem_part_of v [] m = elim m [ ]
mem_part_of v (t ∷ ts) m = ⊎_elim (λ k. of_first (mem_part v t k)) (λ k. of_later (mem_part_of v ts k))
    (mem_split (subterms t) (all_subterms ts) m)

-- a part of a part is a part
mutual
  pub part_trans : {u v t : Term} → Part u v → Part v t → Part u t
  part_trans p itself = p
  part_trans p (in_part q) = in_part (parts_trans p q)

  pub parts_trans : {u v : Term} {ts : Terms} → Part u v → Parts v ts → Parts u ts
  parts_trans p (in_this q) = in_this (part_trans p q)
  parts_trans p (in_later q) = in_later (parts_trans p q)

pub part_of_trans : {u v : Term} {ts : List Term} → Part u v → PartOf v ts → PartOf u ts
part_of_trans p (of_first q) = of_first (part_trans p q)
part_of_trans p (of_later q) = of_later (part_of_trans p q)

-- a part of one of listed terms
pub part_of_listed : (g : ℕ → Term) (n k : ℕ) (v : Term) → k < n → Part v (g k) → PartOf v (listed g n)
part_of_listed g zero k v l p = absurd (omega arith)
part_of_listed g (suc n) k v l p = ⊎_elim
    (λ e. of_first (subst (λ (x : ℕ). Part v (g x)) e p))
    (λ h. of_later (part_of_listed g n k v h p))
    (eq-or-lt_of_le (let z : k ≤ n = omega arith in z))

pub part_in_listed : (g : ℕ → Term) (n : ℕ) (v : Term) → PartOf v (listed g n) → (k : ℕ) × (k < n) × Part v (g k)
part_in_listed g zero v p = elim p [ ]
part_in_listed g (suc n) v (of_first p) = (n, omega arith, p)
part_in_listed g (suc n) v (of_later p) = let h = part_in_listed g n v p in (h.0, omega (arith, h.1), h.2)

pub listed_same : (f g : ℕ → Term) (n : ℕ) → ((k : ℕ) → k < n → f k ≡ g k) → listed f n ≡ listed g n
listed_same f g zero h = refl
listed_same f g (suc n) h = let p = h n (omega arith) in let q = listed_same f g n (λ k l. h k (omega arith)) in cc

-- the count
pub different_most : (ts : List Term) (g : ℕ → Term) (n : ℕ) → Apart g n → ((i : ℕ) → i < n → PartOf (g i) ts) → n ≤ different ts
different_most ts g n d p = pigeon n g (once (all_subterms ts)) (λ i l. once_mem (g i) _ (part_of_mem (p i l))) d

different_reached : (ts : List Term) → (g : ℕ → Term) × Apart g (different ts) × ((i : ℕ) → i < different ts → PartOf (g i) ts)
different_reached ts = let xs = once (all_subterms ts) in (
  λ i. get_or xs i (letter 0),
  once_apart (all_subterms ts),
  λ i l. mem_part_of _ ts (mem_once _ (all_subterms ts) (mem_at xs (letter 0) i l)),
)

-- terms whose parts are all parts of others have no more different parts than those
pub different_mono : (ts us : List Term) → ((v : Term) → PartOf v ts → PartOf v us) → different ts ≤ different us
different_mono ts us h = let r = different_reached ts in different_most us r.0 (different ts) r.1 (λ i l. h _ (r.2 i l))

-- terms whose parts are all parts of some terms or of others have no more different parts than both together
pub different_both : (ts us vs : List Term) → ((v : Term) → PartOf v vs → PartOf v ts ⊎ PartOf v us) →
    different vs ≤ different ts + different us
different_both ts us vs h =
    let xs = once (all_subterms ts) in
    let ys = once (all_subterms us) in
    let r = different_reached vs in
    let l : different vs ≤ length (xs ++ ys) = pigeon (different vs) r.0 (xs ++ ys) (λ i k. ⊎_elim
    (λ p. mem_left ys (once_mem (r.0 i) _ (part_of_mem p))) (λ p. mem_right xs (once_mem (r.0 i) _ (part_of_mem p)))
    (h (r.0 i) (r.2 i k))) r.1 in
    rw (← length-append xs ys) l

different_part : (v t : Term) → Part v t → different (v ∷ []) ≤ different (t ∷ [])
different_part v t p = different_mono (v ∷ []) (t ∷ []) (λ u q. of_first (within u q))
  where
    within : (u : Term) → PartOf u (v ∷ []) → Part u t
    within u (of_first q) = part_trans q p
    within u (of_later q) = elim q [ ]

mutual
  length_subterms : (t : Term) → length (subterms t) ≡ size t
  length_subterms (letter x) = refl
  length_subterms (sign f ts) = let e = length_inner ts in omega arith

  length_inner : (ts : Terms) → length (inner_subterms ts) ≡ sizes ts
  length_inner none1 = refl
  length_inner (and1 t ts) = let e = length_subterms t in let d = length_inner ts in simp length-append (omega arith)

pub different_size : (t : Term) → different (t ∷ []) ≤ size t
different_size t = let h = once_less (subterms t ++ []) in let e = length_subterms t in omega (arith, simp length-append at h)

pub different_counts_lem : DifferentCounts
different_counts_lem = record { most = different_most; reached = different_reached; in_part = different_part; small = different_size }
