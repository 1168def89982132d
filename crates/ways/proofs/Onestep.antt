-- One step by an equation: what it is of different terms, and what it is of one term.
use Rattle.std.proofs.Common.{◌≡◌, ℕ, ◌⊎◌, List, sym, refl, ap, subst, subst₂, inl, inr}
use Rattle.rewriting.specs.Terms.{Term, letter, sign, Terms, none1, and1, glue, put}
use Rattle.rewriting.specs.Rules.{Eq, Step, at_top, below, Steps1, in_first, in_rest}
use Rattle.rewriting.specs.Rules.{Part, itself, in_part, Parts, in_this, in_later}
use Rattle.rewriting.specs.Ways.{One, forth, forth_back}
use Rattle.rewriting.proofs.Glueing.{glue_before, glue_after}
use Rattle.store.specs.Transfers.{inner}
use Rattle.ways.specs.Steps.{SidesAre, Equated, DifferAt, differ_first, differ_later, Itself, Itselves}

-- where two lists differ
pub differ_inv : {v w t u : Term} {ts us : Terms} → DifferAt v w (and1 t ts) (and1 u us) →
    ((t ≡ v) × (u ≡ w) × (ts ≡ us) × (v ≡ w → ⊥)) ⊎ ((t ≡ u) × DifferAt v w ts us)
differ_inv (differ_first n) = inl (refl, refl, refl, n)
differ_inv (differ_later d) = inr (refl, d)

pub differ_here : (v w t u : Term) (ts us : Terms) → t ≡ v → u ≡ w → ts ≡ us → (v ≡ w → ⊥) → DifferAt v w (and1 t ts) (and1 u us)
differ_here v w t u ts us p q r n =
    let a : and1 v us ≡ and1 t ts = cc in
    let b : and1 w us ≡ and1 u us = cc in
    subst₂ (DifferAt v w) a b (differ_first n)

pub differ_there : (v w t u : Term) (ts us : Terms) → t ≡ u → DifferAt v w ts us → DifferAt v w (and1 t ts) (and1 u us)
differ_there v w t u ts us p d = subst (λ (x : Term). DifferAt v w (and1 t ts) (and1 x us)) p (differ_later d)

differ_swap : {v w : Term} {ts us : Terms} → DifferAt v w ts us → DifferAt w v us ts
differ_swap (differ_first n) = differ_first (λ e. n (sym e))
differ_swap (differ_later d) = differ_later (differ_swap d)

pub differ_one : {v w x y : Term} {ts us : Terms} → DifferAt v w ts us → DifferAt x y ts us → (v ≡ x) × (w ≡ y)
differ_one {v} {w} {x} {y} (differ_first n) d = elim (differ_inv d) [ inl h ↦ (h.0, h.1) | inr h ↦ absurd (n h.0) ]
differ_one {v} {w} {x} {y} (differ_later c) d =
    elim (differ_inv d) [ inl h ↦ absurd (h.3 (let p = h.0 in let q = h.1 in cc)) | inr h ↦ differ_one c h.1 ]

pub differ_not : {v w : Term} {ts us : Terms} → DifferAt v w ts us → ts ≡ us → ⊥
differ_not (differ_first n) e = n (cc)
differ_not (differ_later d) e = differ_not d (cc)

-- a step between different terms is at the top or at the only part where they differ
steps_differ : {rs : List Eq} {ts us : Terms} → Steps1 rs ts us → (ts ≡ us → ⊥) → (v w : Term) × DifferAt v w ts us × Step rs v w
steps_differ (in_first {t = t} {u = u} {ts = ts} h) n = (t, u, differ_first (λ e. n (ap (λ (x : Term). and1 x ts) e)), h)
steps_differ (in_rest {t = t} h) n = let (v, w, d, s) = steps_differ h (λ e. n (ap (and1 t) e)) in (v, w, differ_later d, s)

differ_steps : {rs : List Eq} {v w : Term} {ts us : Terms} → DifferAt v w ts us → Step rs v w → Steps1 rs ts us
differ_steps (differ_first n) h = in_first h
differ_steps (differ_later d) h = in_rest (differ_steps d h)

-- t and u have one sign, and v and w in the only part where they differ
pub record Inner (t u v w : Term) : Type 0 where
  pub symbol : ℕ
  pub left_parts : Terms
  pub right_parts : Terms
  pub left : t ≡ sign symbol left_parts
  pub right : u ≡ sign symbol right_parts
  pub differ : DifferAt v w left_parts right_parts

inner_swap : {t u v w : Term} → Inner t u v w → Inner u t w v
inner_swap m = record {
  symbol = m.symbol;
  left_parts = m.right_parts;
  right_parts = m.left_parts;
  left = m.right;
  right = m.left;
  differ = differ_swap m.differ;
}

step_cases : {es : List Eq} {t u : Term} → Step es t u → (t ≡ u → ⊥) → Equated es t u ⊎ ((v w : Term) × Inner t u v w × Step es v w)
step_cases (at_top i r s e) n = inl (record { index = i; equation = r; has = e; sides = inl (s, refl, refl) })
step_cases (below {f = f} {ts = ts} {us = us} h) n =
    let (v, w, d, k) = steps_differ h (λ e. n (ap (sign f) e)) in
    inr (v, w, record { symbol = f; left_parts = ts; right_parts = us; left = refl; right = refl; differ = d }, k)

equated_swap : {es : List Eq} {t u : Term} → Equated es t u → Equated es u t
equated_swap h = record {
  index = h.index;
  equation = h.equation;
  has = h.has;
  sides = elim h.sides [ inl s ↦ inr s | inr s ↦ inl s ];
}

pub one_cases : {es : List Eq} {t u : Term} → One es t u → (t ≡ u → ⊥) → Equated es t u ⊎ ((v w : Term) × Inner t u v w × One es v w)
one_cases (forth h) n = elim (step_cases h n) [ inl e ↦ inl e | inr m ↦ inr (m.0, m.1, m.2, forth m.3) ]
one_cases (forth_back h) n = elim (step_cases h (λ e. n (sym e)))
    [ inl e ↦ inl (equated_swap e) | inr m ↦ inr (m.1, m.0, inner_swap m.2, forth_back m.3) ]

sides_step : {es : List Eq} {t u : Term} (h : Equated es t u) (x y : Term) → SidesAre h.equation x y → Step es x y
sides_step {es} h x y (s, p, q) = subst₂ (Step es) p q (at_top h.index h.equation s h.has)

pub one_top : {es : List Eq} {t u : Term} → Equated es t u → One es t u
one_top {t = t} {u = u} h = elim h.sides [ inl s ↦ forth (sides_step h t u s) | inr s ↦ forth_back (sides_step h u t s) ]

inner_step : {es : List Eq} {t u v w : Term} → Inner t u v w → Step es v w → Step es t u
inner_step {es} m h = subst₂ (Step es) (sym m.left) (sym m.right) (below (differ_steps m.differ h))

pub one_up : {es : List Eq} {t u v w : Term} → Inner t u v w → One es v w → One es t u
one_up m (forth h) = forth (inner_step m h)
one_up m (forth_back h) = forth_back (inner_step (inner_swap m) h)

-- where they differ is one place
pub inner_one : {t u v w x y : Term} → Inner t u v w → Inner t u x y → (v ≡ x) × (w ≡ y)
inner_one {t} {u} {v} {w} {x} {y} m k =
    let e : k.left_parts ≡ m.left_parts = let a = m.left in let b = k.left in cc in
    let d : k.right_parts ≡ m.right_parts = let a = m.right in let b = k.right in cc in
    differ_one m.differ (subst₂ (DifferAt x y) e d k.differ)

pub inner_apart : {v w : Term} {ts us : Terms} → DifferAt v w ts us → v ≡ w → ⊥
inner_apart (differ_first n) e = n e
inner_apart (differ_later d) e = inner_apart d e

-- a step from a term to itself is one of a part to itself
mutual
  step_itself : {es : List Eq} {t u : Term} → Step es t u → t ≡ u → Itself es t
  step_itself (at_top i r s e) d =
      (put s r.left, itself, record { index = i; equation = r; has = e; sides = inl (s, refl, sym d) })
  step_itself (below {f = f} {ts = ts} {us = us} h) d =
      let e : ts ≡ us = cc in let (v, p, q) = steps_itself h e in (v, in_part p, q)

  steps_itself : {es : List Eq} {ts us : Terms} → Steps1 es ts us → ts ≡ us → Itselves es ts
  steps_itself (in_first {t = t} {u = u} h) d = let e : t ≡ u = cc in let (v, p, q) = step_itself h e in (v, in_this p, q)
  steps_itself (in_rest {ts = ts} {us = us} h) d =
      let e : ts ≡ us = cc in let (v, p, q) = steps_itself h e in (v, in_later p, q)

mutual
  part_step : {es : List Eq} {v t : Term} → Part v t → Step es v v → Step es t t
  part_step itself h = h
  part_step (in_part p) h = below (parts_step p h)

  parts_step : {es : List Eq} {v : Term} {ts : Terms} → Parts v ts → Step es v v → Steps1 es ts ts
  parts_step (in_this p) h = in_first (part_step p h)
  parts_step (in_later p) h = in_rest (parts_step p h)

pub one_itself : {es : List Eq} {t u : Term} → One es t u → t ≡ u → Itself es t
one_itself (forth h) e = step_itself h e
one_itself {es} (forth_back h) e = subst (Itself es) (sym e) (step_itself h (sym e))

pub itself_one : {es : List Eq} {t : Term} → Itself es t → One es t t
itself_one (v, p, h) = forth (part_step p (elim h.sides [ inl s ↦ sides_step h v v s | inr s ↦ sides_step h v v s ]))

-- of terms in front of others
parts_glue : {v : Term} (us ts : Terms) → Parts v (glue us ts) → Parts v us ⊎ Parts v ts
parts_glue none1 ts p = inr p
parts_glue (and1 u us) ts (in_this p) = inl (in_this p)
parts_glue (and1 u us) ts (in_later p) = elim (parts_glue us ts p) [ inl q ↦ inl (in_later q) | inr q ↦ inr q ]

inner_part : {v t : Term} → Part v t → (v ≡ t) ⊎ Parts v (inner t)
inner_part itself = inl refl
inner_part (in_part p) = inr p

part_inner : {v : Term} (t : Term) → Parts v (inner t) → Part v t
part_inner (letter x) p = elim p [ ]
part_inner (sign f ts) p = in_part p

-- the first of the terms is not led to itself at its top: its parts in its place
module _ (es : List Eq) (u : Term) (ts : Terms) where
  pub selves_on : (Equated es u u → ⊥) → Itselves es (and1 u ts) → Itselves es (glue (inner u) ts)
  selves_on n (v, in_this p, h) = elim (inner_part p) [
    | inl e ↦ absurd (n (subst (λ (x : Term). Equated es x x) e h))
    | inr q ↦ (v, glue_before ts q, h)
  ]
  selves_on n (v, in_later p, h) = (v, glue_after (inner u) p, h)

  pub selves_back : Itselves es (glue (inner u) ts) → Itselves es (and1 u ts)
  selves_back (v, p, h) = elim (parts_glue (inner u) ts p) [
    | inl q ↦ (v, in_this (part_inner u q), h)
    | inr q ↦ (v, in_later q, h)
  ]
