-- Bindings, as unification keeps them: for some letters a term, in which bound letters may stand; and what they resolve to.
use mathlib.Core.Path.{◌≡◌, refl, sym, ◌∙◌, ap, subst}
use mathlib.Core.Option.{Option, some, none}
use Prim.Native.Nat.{ℕ}
use native.Mathlib.Decide.{ℕ_discrete}
use Rattle.rewriting.specs.Terms.{Term, letter, put, In}
use Rattle.rewriting.specs.Overlaps.{Least}
use Rattle.rewriting.proofs.Choosing.{no_some, pick, pick_has, pick_yes, pick_no}
use Rattle.rewriting.proofs.Replacing.{put_put, put_through, put_agree, put_letter}
use Rattle.rewriting.proofs.Unifying.{single, single_put, single_here, single_other}

-- for some letters a term
abbrev pub Bindings : Type 0
Bindings = ℕ → Option Term

-- r is as the bindings say
abbrev pub Holds : Bindings → (ℕ → Term) → Type 0
Holds σ r = (x : ℕ) (u : Term) → σ x ≡ some u → r x ≡ put r u

-- the bindings, followed to their ends, are s
pub record Resolved (σ : Bindings) (s : ℕ → Term) : Type 0 where
  pub free : (x : ℕ) → σ x ≡ none → s x ≡ letter x
  pub bound : Holds σ s
  pub most : (r : ℕ → Term) → Holds σ r → (x : ℕ) → r x ≡ put r (s x)

pub no_bindings : Resolved (λ x. none) letter
no_bindings = record { free = λ x e. refl; bound = λ x u e. absurd (no_some e); most = λ r h x. refl }

-- one more
pub bind : Bindings → ℕ → Term → Bindings
bind σ x u y = pick (ℕ_discrete x y) (some u) (σ y)

pub bind_here : (σ : Bindings) (x : ℕ) (u : Term) → bind σ x u x ≡ some u
unfolding bind
bind_here σ x u = pick_yes (ℕ_discrete x x) (some u) (σ x) refl

pub bind_other : (σ : Bindings) (x : ℕ) (u : Term) (y : ℕ) → (x ≡ y → ⊥) → bind σ x u y ≡ σ y
unfolding bind
bind_other σ x u y n = pick_no (ℕ_discrete x y) (some u) (σ y) n

module _ (σ : Bindings) (s : ℕ → Term) (ok : Resolved σ s) (x : ℕ) (u : Term) (unbound : σ x ≡ none) (fresh : In x (put s u) → ⊥) where
  -- what they resolve to then
  pub bound_next : ℕ → Term
  bound_next y = put (single x (put s u)) (s y)

  holds_old : (r : ℕ → Term) → Holds (bind σ x u) r → Holds σ r
  unfolding bind
  holds_old r h y w e = pick_has (λ (o : Option Term). (o ≡ some w → r y ≡ put r w) → r y ≡ put r w) (ℕ_discrete x y) (some u) (σ y)
      (λ d k. absurd (no_some (sym unbound ∙ (ap σ d ∙ e)))) (λ n k. k e) (h y w)

  holds_new : (r : ℕ → Term) → Holds (bind σ x u) r → r x ≡ put r u
  holds_new r h = h x u (bind_here σ x u)

  same_put : (t : Term) → (In x t → ⊥) → put (single x (put s u)) t ≡ t
  same_put t n = put_agree (single x (put s u)) letter t
      (λ y i. single_other x (put s u) y (λ e. n (subst (λ (z : ℕ). In z t) (sym e) i))) ∙ put_letter t

  next_put : (t : Term) → put bound_next t ≡ put (single x (put s u)) (put s t)
  unfolding bound_next
  next_put t = sym (put_put (single x (put s u)) s t)

  next_free : (y : ℕ) → bind σ x u y ≡ none → bound_next y ≡ letter y
  unfolding bind bound_next
  next_free y = pick_has (λ (o : Option Term). o ≡ none → bound_next y ≡ letter y) (ℕ_discrete x y) (some u) (σ y)
      (λ d e. absurd (no_some (sym e)))
      (λ n e. ap (put (single x (put s u))) (ok.free y e) ∙ single_other x (put s u) y n)

  next_here : bound_next x ≡ put bound_next u
  unfolding bound_next
  next_here = ap (put (single x (put s u))) (ok.free x unbound)
      ∙ (single_here x (put s u) ∙ (sym (same_put (put s u) fresh) ∙ sym (next_put u)))

  next_bound : Holds (bind σ x u) bound_next
  unfolding bind bound_next
  next_bound y w = pick_has (λ (o : Option Term). o ≡ some w → bound_next y ≡ put bound_next w) (ℕ_discrete x y) (some u) (σ y)
      (λ d e. let q : u ≡ w = cc in sym (ap bound_next d) ∙ (next_here ∙ ap (put bound_next) q))
      (λ n e. ap (put (single x (put s u))) (ok.bound y w e) ∙ sym (next_put w))

  next_most : (r : ℕ → Term) → Holds (bind σ x u) r → (y : ℕ) → r y ≡ put r (bound_next y)
  unfolding bound_next
  next_most r h y = ok.most r (holds_old r h) y
      ∙ sym (single_put r x (put s u) (holds_new r h ∙ sym (put_through r s r (ok.most r (holds_old r h)) u)) (s y))

  pub bind_resolved : Resolved (bind σ x u) bound_next
  bind_resolved = record { free = next_free; bound = next_bound; most = next_most }

-- at the end: what makes two terms one is just what is as the bindings say
pub least_by : (a b : Term) (σ : Bindings) (s : ℕ → Term) → Resolved σ s →
    ((r : ℕ → Term) → put r a ≡ put r b → Holds σ r) → put s a ≡ put s b → Least a b
least_by a b σ s ok all one = record { s = s; one = one; most = λ r e. ok.most r (all r e) }
