-- Rows of parts, one by one: what a relation says of each two, what a replacement makes of them, and that they are smaller.
use Rattle.std.proofs.Common.{◌≡◌, ℕ, zero, suc, ◌+◌, ◌<◌, ◌≤◌, refl, subst, ap₂, ⊎_elim, eq-or-lt_of_le, arith}
use Rattle.rewriting.specs.Terms.{Term, Terms, none1, and1, put, puts, size, sizes}
use Rattle.store.specs.Slots.{parts_by}
use Rattle.unification.specs.Classes.{Each}

pub each_map : (R S : Term → Term → Type 0) → ((t u : Term) → R t u → S t u) → (ts us : Terms) → Each R ts us → Each S ts us
each_map R S h none1 none1 a = tt
each_map R S h none1 (and1 u us) a = a
each_map R S h (and1 t ts) none1 a = a
each_map R S h (and1 t ts) (and1 u us) (a, b) = (h t u a, each_map R S h ts us b)

module _ (d e : ℕ → Term) (p q : ℕ → ℕ) where
  pub each_parts : (R : Term → Term → Type 0) (k n : ℕ) → ((m : ℕ) → k ≤ m → m < k + n → R (d (p m)) (e (q m))) →
      Each R (parts_by d p k n) (parts_by e q k n)
  each_parts R k zero h = tt
  each_parts R k (suc n) h =
      (h k (omega arith) (omega arith), each_parts R (k + 1) n (λ m a b. h m (omega arith) (omega arith)))

  pub puts_parts : (r : ℕ → Term) (k n : ℕ) → ((m : ℕ) → k ≤ m → m < k + n → put r (d (p m)) ≡ put r (e (q m))) →
      puts r (parts_by d p k n) ≡ puts r (parts_by e q k n)
  puts_parts r k zero h = refl
  puts_parts r k (suc n) h =
      ap₂ and1 (h k (omega arith) (omega arith)) (puts_parts r (k + 1) n (λ m a b. h m (omega arith) (omega arith)))

  pub parts_put : (r : ℕ → Term) (k n : ℕ) → puts r (parts_by d p k n) ≡ puts r (parts_by e q k n) →
      (m : ℕ) → k ≤ m → m < k + n → put r (d (p m)) ≡ put r (e (q m))
  parts_put r k zero h m a b = absurd (omega arith)
  parts_put r k (suc n) h m a b = ⊎_elim
      (λ z. let first : put r (d (p k)) ≡ put r (e (q k)) = cc in
      subst (λ (j : ℕ). put r (d (p j)) ≡ put r (e (q j))) z first)
      (λ z. let rest : puts r (parts_by d p (k + 1) n) ≡ puts r (parts_by e q (k + 1) n) = cc in
      parts_put r (k + 1) n rest m (omega arith) (omega arith))
      (eq-or-lt_of_le a)

pub part_size : (d : ℕ → Term) (p : ℕ → ℕ) (r : ℕ → Term) (k n m : ℕ) → k ≤ m → m < k + n →
    size (put r (d (p m))) ≤ sizes (puts r (parts_by d p k n))
part_size d p r k zero m a b = absurd (omega arith)
part_size d p r k (suc n) m a b = ⊎_elim
    (λ z. subst (λ (j : ℕ). size (put r (d (p j))) ≤ size (put r (d (p k))) + sizes (puts r (parts_by d p (k + 1) n))) z (omega arith))
    (λ z. let h = part_size d p r (k + 1) n m (omega arith) (omega arith) in omega arith)
    (eq-or-lt_of_le a)
