-- A number that falls with each move, so the machine comes to an end.
use mathlib.Core.Path.{◌≡◌, refl, ap, subst}
use mathlib.Core.Logic.{◌⊎◌, inl, inr}
use mathlib.Core.List.{List, [], ◌∷◌}
use mathlib.Core.Option.{some}
use Prim.Native.Nat.{ℕ, zero, suc, ◌+◌, ◌<◌, ◌≤◌}
use native.Mathlib.Omega.{arith}
use Rattle.rewriting.specs.Terms.{nth, Term, letter, sign, Terms, none1, and1, put, glue, Fits}
use Rattle.rewriting.specs.Rules.{Eq, Steps, stay, go}
use Rattle.rewriting.specs.Order.{rank, AllDown}
use Rattle.rewriting.specs.Books.{Book, Fine}
use Rattle.rewriting.specs.Machine.{Frame, frame, Focus, eval, back, apply, State, state, behind, around, focal, plug, whole}
use Rattle.rewriting.specs.Machine.{start, finished}
use Rattle.rewriting.specs.Machine.{Still, Move, known, at_once, no_parts, go_in, go_on, go_out, known_sign, by_rule, no_rule}
use Rattle.rewriting.specs.Machine.{Moves, rest, move}
use Rattle.rewriting.specs.MachineTheorems.{Leads, MovesFall, MachineEnds}
use Rattle.rewriting.proofs.Choosing.{each_or}
use Rattle.rewriting.proofs.Matching.{dec_instance}
use Rattle.rewriting.proofs.Terminating.{step_keeps}
use Rattle.rewriting.proofs.Height.{weighted, weighted_falls}
use Rattle.rewriting.proofs.Moving.{rule_leads, move_whole, move_fits, letter_done}

-- how many moves it takes to walk through a term without a step
abbrev mutual
  walk : Term → ℕ
  walk (letter x) = 1
  walk (sign f ts) = 2 + walk_parts ts

  walk_parts : Terms → ℕ
  walk_parts none1 = 0
  walk_parts (and1 t ts) = 1 + walk t + walk_parts ts

walk_some : (t : Term) → 0 < walk t
walk_some (letter x) = omega arith
walk_some (sign f ts) = omega arith

-- and how many of them are left
abbrev left_frames : List Frame → ℕ
left_frames [] = 0
left_frames (frame f bs ts ∷ ks) = 2 + walk_parts ts + left_frames ks

abbrev left_focus : Focus → ℕ
left_focus (eval t) = walk t
left_focus (back v) = 0
left_focus (apply f ts) = 1

abbrev moves_left : State → ℕ
moves_left (state ks c) = left_focus c + left_frames ks

-- no more than it takes for the whole
walk_glue : (bs ts : Terms) → walk_parts ts ≤ walk_parts (glue bs ts)
walk_glue none1 ts = omega arith
walk_glue (and1 b bs) ts = omega (arith, walk_glue bs ts)

walk_plug : (ks : List Frame) (t : Term) → walk t + left_frames ks ≤ walk (plug ks t)
walk_plug [] t = omega arith
walk_plug (frame f bs ts ∷ ks) t = omega (arith, walk_plug ks (around (frame f bs ts) t), walk_glue bs (and1 t ts))

walk_focus : (c : Focus) → left_focus c ≤ walk (focal c)
walk_focus (eval t) = omega arith
walk_focus (back v) = omega arith
walk_focus (apply f ts) = omega arith

left_walk : (x : State) → moves_left x ≤ walk (whole x)
left_walk (state ks c) = omega (arith, walk_plug ks (focal c), walk_focus c)

-- a move that doesn't lead on leaves fewer
nears_or_leads : {rs : List Eq} {x y : State} → Move rs x y → (moves_left y < moves_left x) ⊎ Leads rs (whole x) (whole y)
nears_or_leads (known {t = t} h d) = inl (omega (arith, walk_some t))
nears_or_leads (at_once {ks = ks} {t = t} i r s e is) = inr (rule_leads ks t i r s e is)
nears_or_leads no_parts = inl (omega arith)
nears_or_leads go_in = inl (omega arith)
nears_or_leads go_on = inl (omega arith)
nears_or_leads go_out = inl (omega arith)
nears_or_leads (known_sign h d) = inl (omega arith)
nears_or_leads (by_rule {ks = ks} {f = f} {ts = ts} i r s e is) = inr (rule_leads ks (sign f ts) i r s e is)
nears_or_leads (no_rule n) = inl (omega arith)

-- the moves left, and for each step that can still be taken those for the term that it leads to
pub cost : Book → State → ℕ
cost b x = moves_left x + weighted walk b (whole x)

module _ (b : Book) (fine : Fine b) (down : AllDown (rank b.ranks) b.rules) where
  steps_fall : {t u : Term} → Steps b.rules t u → Fits b.parts t → walk u + weighted walk b u ≤ walk t + weighted walk b t
  steps_fall stay f = omega arith
  steps_fall (go {t = t} {u = u} h hs) f =
      omega (arith, weighted_falls walk b fine down t u f h, steps_fall hs (step_keeps b fine down h f))

  leads_fall : (t u : Term) → Leads b.rules t u → Fits b.parts t → walk u + weighted walk b u < weighted walk b t
  leads_fall t u l f = omega (arith, weighted_falls walk b fine down t l.0 f l.1, steps_fall l.2 (step_keeps b fine down l.1 f))

  pub cost_falls : (x y : State) → Fits b.parts (whole x) → Move b.rules x y → cost b y < cost b x
  unfolding cost
  cost_falls x y f m = elim (move_whole m) [
    | inr l ↦ leading l
    | inl e ↦ elim (nears_or_leads m) [ inl l ↦ omega (arith, l, ap (weighted walk b) e) | inr l ↦ leading l ]
  ]
    where
      leading : Leads b.rules (whole x) (whole y) → moves_left y + weighted walk b (whole y) < moves_left x + weighted walk b (whole x)
      leading l = omega (arith, left_walk y, leads_fall (whole x) (whole y) l f)

  -- more than one move
  pub moves_fall : {x y : State} → Moves b.rules x y → Fits b.parts (whole x) → cost b y ≤ cost b x
  moves_fall rest f = omega arith
  moves_fall (move {x = x} {y = y} m ms) f = omega (arith, cost_falls x y f m, moves_fall ms (move_fits b fine down m f))

  -- there is always a move, until it is finished
  pub letter_move : (ks : List Frame) (x : ℕ) → Move b.rules (state ks (eval (letter x))) (state ks (back (letter x)))
  letter_move ks x = known stay (letter_done (rank b.ranks) b.rules down x)

  abbrev Next : State → Type 0
  Next x = (y : State) × Move b.rules x y

  apply_move : (ks : List Frame) (f : ℕ) (ts : Terms) → Next (state ks (apply f ts))
  apply_move ks f ts = told (each_or (λ (r : Eq). (s : ℕ → Term) → put s r.left ≡ sign f ts → ⊥) (Next (state ks (apply f ts)))
      b.rules (λ i r e. tried i r e (dec_instance r.left (sign f ts))))
    where
      tried : (i : ℕ) (r : Eq) → nth b.rules i ≡ some r → Dec ((s : ℕ → Term) × (put s r.left ≡ sign f ts)) →
          ((s : ℕ → Term) → put s r.left ≡ sign f ts → ⊥) ⊎ Next (state ks (apply f ts))
      tried i r e (yes p) = inr (state ks (eval (put p.0 r.right)), by_rule i r p.0 e p.1)
      tried i r e (no n) = inl (λ s q. n (s, q))

      told : Still b.rules (sign f ts) ⊎ Next (state ks (apply f ts)) → Next (state ks (apply f ts))
      told (inl n) = (state ks (back (sign f ts)), no_rule n)
      told (inr m) = m

  pub next_move : (x : State) → Next x ⊎ ((v : Term) × (x ≡ finished v))
  next_move (state ks (eval (letter x))) = inl (state ks (back (letter x)), letter_move ks x)
  next_move (state ks (eval (sign f none1))) = inl (state ks (apply f none1), no_parts)
  next_move (state ks (eval (sign f (and1 t ts)))) = inl (state (frame f none1 ts ∷ ks) (eval t), go_in)
  next_move (state [] (back v)) = inr (v, refl)
  next_move (state (frame f bs none1 ∷ ks) (back v)) = inl (state ks (apply f (behind bs v)), go_out)
  next_move (state (frame f bs (and1 t ts) ∷ ks) (back v)) = inl (state (frame f (behind bs v) ts ∷ ks) (eval t), go_on)
  next_move (state ks (apply f ts)) = inl (apply_move ks f ts)

  comes_within : (n : ℕ) (x : State) → Fits b.parts (whole x) → cost b x < n → (v : Term) × Moves b.rules x (finished v)
  comes_within zero x f l = absurd (omega arith)
  comes_within (suc n) x f l = told (next_move x) (comes_within n)
    where
      told : Next x ⊎ ((v : Term) × (x ≡ finished v)) →
          ((y : State) → Fits b.parts (whole y) → cost b y < n → (v : Term) × Moves b.rules y (finished v)) →
          (v : Term) × Moves b.rules x (finished v)
      told (inl (y, m)) more1 =
          let (v, ms) = more1 y (move_fits b fine down m f) (omega (arith, cost_falls x y f m)) in (v, move m ms)
      told (inr (v, e)) more1 = (v, subst (Moves b.rules x) e rest)

pub machine_ends_lem : MachineEnds
machine_ends_lem b fine down = record {
  letters = letter_move b fine down;
  next = next_move b fine down;
  comes = λ t f. comes_within b fine down (suc (cost b (start t))) (start t) f (omega arith);
}

pub cost_moves : MovesFall cost
cost_moves b fine down x y f m = cost_falls b fine down x y f m
