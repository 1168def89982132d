-- The terms of a row from symbol k on, and the roots that hold them, the first uppermost.
use Rattle.std.proofs.Common.{◌≡◌, ℕ, zero, suc, ◌+◌, ◌-◌, ◌*◌, ◌<◌, ◌≤◌, List, drop, sym, refl, ap, ◌∙◌, subst, ⊎_elim, arith, drop-drop}
use Rattle.rewriting.specs.Terms.{Term, letter, sign, Terms, none1, and1, count, sizes, AllOver, glue}
use Rattle.rewriting.specs.Rules.{Part, itself, in_part, Parts, in_this, in_later}
use Rattle.rewriting.proofs.Different.{part_trans}
use Rattle.books.specs.Rows.{rows}
use Rattle.books.proofs.Forests.{behind, behind_rows, behind_over, behind_sizes}
use Rattle.store.specs.declared.types.Store.{Store}
use Rattle.store.specs.declared.types.Roots.{Roots}
use Rattle.store.specs.Stores.{held, terms_down}
use Rattle.store.proofs.Cases.{last_or_below}

-- from symbol k on
abbrev pub after : ℕ → Terms → Terms
after zero ts = ts
after (suc k) ts = behind (after k ts)

pub after_rows : (k : ℕ) (ts : Terms) → rows (after k ts) ≡ drop (2 * k) (rows ts)
after_rows zero ts = refl
after_rows (suc k) ts =
    let e : 2 * k + 2 ≡ 2 * suc k = omega arith in
    behind_rows (after k ts) ∙ ap (drop 2) (after_rows k ts) ∙ drop-drop 2 (2 * k) (rows ts) ∙ ap (λ (n : ℕ). drop n (rows ts)) e

pub after_over : (L : ℕ → Type 0) (ps : List ℕ) (k : ℕ) (ts : Terms) → AllOver L ps ts → AllOver L ps (after k ts)
after_over L ps zero ts o = o
after_over L ps (suc k) ts o = behind_over L ps (after k ts) (after_over L ps k ts o)

pub after_sizes : (k : ℕ) (ts : Terms) → k ≤ sizes ts → sizes (after k ts) + k ≡ sizes ts
after_sizes zero ts l = omega arith
after_sizes (suc k) ts l = let e = after_sizes k ts (omega arith) in let d = behind_sizes (after k ts) (omega arith) in omega arith

-- behind the last symbol there is none
pub none_left : (ts : Terms) → sizes ts ≡ 0 → ts ≡ none1
none_left none1 e = refl
none_left (and1 (letter x) ts) e = absurd (omega arith)
none_left (and1 (sign f us) ts) e = absurd (omega arith)

-- each of the terms is a part of t
abbrev pub EachPart : Term → Terms → Type 0
EachPart t none1 = Unit {0}
EachPart t (and1 u us) = Part u t × EachPart t us

each_in : (t : Term) (us : Terms) → ((u : Term) → Parts u us → Part u t) → EachPart t us
each_in t none1 h = tt
each_in t (and1 u us) h = (h u (in_this itself), each_in t us (λ v p. h v (in_later p)))

each_glue : (t : Term) (us vs : Terms) → EachPart t us → EachPart t vs → EachPart t (glue us vs)
each_glue t none1 vs p q = q
each_glue t (and1 u us) vs p q = (p.0, each_glue t us vs p.1 q)

each_behind : (t : Term) (us : Terms) → EachPart t us → EachPart t (behind us)
each_behind t none1 p = tt
each_behind t (and1 (letter x) us) p = p.1
each_behind t (and1 (sign f vs) us) p = each_glue t vs us (each_in t vs (λ u q. part_trans (in_part q) p.0)) p.1

pub after_parts : (k : ℕ) (t : Term) → EachPart t (after k (and1 t none1))
after_parts zero t = (itself, tt)
after_parts (suc k) t = each_behind t (after k (and1 t none1)) (after_parts k t)

-- the roots
pub down_same : (a b : Store) (q r : Roots) (from1 n : ℕ) → ((k : ℕ) → k < from1 + n → held b r k ≡ held a q k) →
    terms_down b r from1 n ≡ terms_down a q from1 n
down_same a b q r from1 zero h = refl
down_same a b q r from1 (suc n) h =
    let e = h (from1 + n) (omega arith) in let d = down_same a b q r from1 n (λ k l. h k (omega arith)) in cc

pub down_count : (a : Store) (r : Roots) (from1 n : ℕ) → count (terms_down a r from1 n) ≡ n
down_count a r from1 zero = refl
down_count a r from1 (suc n) = omega (arith, down_count a r from1 n)

pub down_one : (a : Store) (r : Roots) (from1 n : ℕ) (t : Term) → terms_down a r from1 n ≡ and1 t none1 → (n ≡ 1) × (held a r from1 ≡ t)
down_one a r from1 n t e =
    let c : n ≡ 1 = omega (arith, down_count a r from1 n, ap count e) in
    let d : terms_down a r from1 1 ≡ and1 t none1 = ap (λ (m : ℕ). terms_down a r from1 m) (sym c) ∙ e in
    let z : from1 + 0 ≡ from1 = omega arith in
    let h : held a r (from1 + 0) ≡ t = cc in
    (c, ap (λ (x : ℕ). held a r x) (sym z) ∙ h)

-- the uppermost of them, and the others
pub down_split : (a : Store) (r : Roots) (from1 n : ℕ) (us vs : Terms) → terms_down a r from1 n ≡ glue us vs →
    (count us ≤ n) × (terms_down a r (from1 + (n - count us)) (count us) ≡ us) × (terms_down a r from1 (n - count us) ≡ vs)
down_split a r from1 n none1 vs e = let z : n - 0 ≡ n = omega arith in (omega arith, refl, ap (λ (m : ℕ). terms_down a r from1 m) z ∙ e)
down_split a r from1 zero (and1 u us) vs e = let z : ◌≡◌ {A = ℕ} 0 1 = cc in absurd (omega arith)
down_split a r from1 (suc n) (and1 u us) vs e =
    let h : held a r (from1 + n) ≡ u = cc in
    let d : terms_down a r from1 n ≡ glue us vs = cc in
    let i = down_split a r from1 n us vs d in
    let m : suc n - (1 + count us) ≡ n - count us = omega arith in
    let o : 1 + count us ≡ suc (count us) = omega arith in
    let s : from1 + (n - count us) + count us ≡ from1 + n = omega (arith, i.0) in (
      omega (arith, i.0),
      ap (λ (x : ℕ). terms_down a r (from1 + x) (1 + count us)) m
          ∙ ap (λ (x : ℕ). terms_down a r (from1 + (n - count us)) x) o
          ∙ ap (λ (x : ℕ). and1 (held a r x) (terms_down a r (from1 + (n - count us)) (count us))) s
          ∙ ap (λ (x : Term). and1 x (terms_down a r (from1 + (n - count us)) (count us))) h
          ∙ ap (and1 u) i.1,
      ap (λ (x : ℕ). terms_down a r from1 x) m ∙ i.2,
    )

pub down_part : (a : Store) (r : Roots) (from1 n : ℕ) (t : Term) (us : Terms) → terms_down a r from1 n ≡ us → EachPart t us →
    (i : ℕ) → i < n → Part (held a r (from1 + i)) t
down_part a r from1 zero t us e p i l = absurd (omega arith)
down_part a r from1 (suc n) t none1 e p i l = let z : ◌≡◌ {A = ℕ} 0 1 = cc in absurd (omega arith)
down_part a r from1 (suc n) t (and1 u us) e p i l =
    let h : u ≡ held a r (from1 + n) = cc in
    let d : terms_down a r from1 n ≡ us = cc in
    ⊎_elim
    (λ z. subst (λ (x : ℕ). Part (held a r (from1 + x)) t) (sym z) (subst (λ (v : Term). Part v t) h p.0))
    (λ z. down_part a r from1 n t us d p.1 i z)
    (last_or_below i n (omega arith))
