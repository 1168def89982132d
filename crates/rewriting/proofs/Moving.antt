-- Moves: what they do to the whole term, and that they keep states valid.
use mathlib.Core.Path.{◌≡◌, refl, sym, ap, subst}
use mathlib.Core.Logic.{◌⊎◌, inl, inr}
use mathlib.Core.List.{List}
use mathlib.Core.Option.{some}
use Prim.Native.Nat.{ℕ}
use Rattle.rewriting.specs.Terms.{nth, Term, letter, sign, Terms, none1, and1, put, Fits}
use Rattle.rewriting.specs.Rules.{Eq, Step, at_top, Steps1, in_first, in_rest, Steps, stay, go, Done}
use Rattle.rewriting.specs.Order.{Rank, rank, Greater, by_part, by_sign, by_order, AllDown}
use Rattle.rewriting.specs.Books.{Book, Fine}
use Rattle.rewriting.specs.Machine.{Frame, State, frames, focus, behind, plug, whole, start}
use Rattle.rewriting.specs.Machine.{Still, Move, known, at_once, no_parts, go_in, go_on, go_out, known_sign, by_rule, no_rule}
use Rattle.rewriting.specs.Machine.{Moves, rest, move, LowestMoves, no_move, move_on, AllDone, FramesDone, FocusDone, Valid}
use Rattle.rewriting.specs.MachineTheorems.{Leads, MachineSteps, MachineValid}
use Rattle.rewriting.proofs.Comparing.{letter_not_sign}
use Rattle.rewriting.proofs.Stepping.{trans, FromSign, by_top, from_sign, from_letter}
use Rattle.rewriting.proofs.Stepping.{by_part as by_parts}
use Rattle.rewriting.proofs.Terminating.{steps_keep}
use Rattle.rewriting.proofs.Framing.{around_behind, plug_step, plug_steps}

pub leads_steps : {rs : List Eq} {t u : Term} → Leads rs t u → Steps rs t u
leads_steps l = go l.1 l.2

-- a move stays at the whole term or leads on
abbrev pub KeepsOrLeads : List Eq → Term → Term → Type 0
KeepsOrLeads rs t u = (t ≡ u) ⊎ Leads rs t u

by_steps : {rs : List Eq} {t u : Term} → Steps rs t u → KeepsOrLeads rs t u
by_steps stay = inl refl
by_steps (go {u = w} h hs) = inr (w, h, hs)

pub rule_leads : {rs : List Eq} (ks : List Frame) (t : Term) (i : ℕ) (r : Eq) (s : ℕ → Term) → nth rs i ≡ some r → put s r.left ≡ t →
    Leads rs (plug ks t) (plug ks (put s r.right))
rule_leads {rs} ks t i r s e is =
    (plug ks (put s r.right), plug_step ks (subst (λ (w : Term). Step rs w (put s r.right)) is (at_top i r s e)), stay)

pub move_whole : {rs : List Eq} {x y : State} → Move rs x y → KeepsOrLeads rs (whole x) (whole y)
move_whole (known {ks = ks} h d) = by_steps (plug_steps ks h)
move_whole (at_once {ks = ks} {t = t} i r s e is) = inr (rule_leads ks t i r s e is)
move_whole no_parts = inl refl
move_whole go_in = inl refl
move_whole (go_on {ks = ks} {f = f} {bs = bs} {ts = ts} {v = v} {t = t}) = inl (ap (plug ks) (sym (around_behind f bs v t ts)))
move_whole go_out = inl refl
move_whole (known_sign {ks = ks} h d) = by_steps (plug_steps ks h)
move_whole (by_rule {ks = ks} {f = f} {ts = ts} i r s e is) = inr (rule_leads ks (sign f ts) i r s e is)
move_whole (no_rule n) = inl refl

pub move_steps : {rs : List Eq} {x y : State} → Move rs x y → Steps rs (whole x) (whole y)
move_steps {rs} {x} {y} m = elim (move_whole m) [
  | inl e ↦ subst (Steps rs (whole x)) e stay
  | inr l ↦ leads_steps l
]

-- moves can be put one after another
pub moves_on : {rs : List Eq} {x y z : State} → Moves rs x y → Moves rs y z → Moves rs x z
moves_on rest k = k
moves_on (move m ms) k = move m (moves_on ms k)

pub moves_steps : {rs : List Eq} {x y : State} → Moves rs x y → Steps rs (whole x) (whole y)
moves_steps rest = stay
moves_steps (move m ms) = trans (move_steps m) (moves_steps ms)

-- moves by the lowest-numbered rules are moves, and can be put one after another too
pub lowest_are_moves : {rs : List Eq} {x y : State} → LowestMoves rs x y → Moves rs x y
lowest_are_moves no_move = rest
lowest_are_moves (move_on m ms) = move m.move (lowest_are_moves ms)

pub lowest_moves_on : {rs : List Eq} {x y z : State} → LowestMoves rs x y → LowestMoves rs y z → LowestMoves rs x z
lowest_moves_on no_move k = k
lowest_moves_on (move_on m ms) k = move_on m (lowest_moves_on ms k)

pub machine_steps_lem : MachineSteps
machine_steps_lem = record { move = λ rs x y m. move_whole m; moves = λ rs x y ms. moves_steps ms }

-- a sign is done if its parts are and no rule can be used at the top
none_done : {rs : List Eq} {ts us : Terms} → AllDone rs ts → Steps1 rs ts us → ⊥
none_done d (in_first {u = u} h) = d.0 u h
none_done d (in_rest h) = none_done d.1 h

pub sign_done : {rs : List Eq} (f : ℕ) (ts : Terms) → AllDone rs ts → Still rs (sign f ts) → Done rs (sign f ts)
sign_done {rs} f ts d still u h = told (from_sign h f ts refl)
  where
    told : {v : Term} → FromSign rs f ts v → ⊥
    told (by_top t) = still t.i t.r t.has t.s (sym t.from)
    told (by_parts k) = none_done d k

-- and a letter is, if all rules go down: then no left side is a letter
greater_sign : {rk : Rank} {t u : Term} (s : ℕ → Term) (x : ℕ) → Greater rk t u → letter x ≡ put s t → ⊥
greater_sign s x (by_part p) e = letter_not_sign e
greater_sign s x (by_sign l h) e = letter_not_sign e
greater_sign s x (by_order o h) e = letter_not_sign e

pub letter_done : (rk : Rank) (rs : List Eq) → AllDown rk rs → (x : ℕ) → Done rs (letter x)
letter_done rk rs down x u h = let t = from_letter h x refl in greater_sign t.s x (down t.i t.r t.has) t.from

behind_done : {rs : List Eq} (bs : Terms) (v : Term) → AllDone rs bs → Done rs v → AllDone rs (behind bs v)
behind_done none1 v d h = (h, tt)
behind_done (and1 b bs) v d h = (d.0, behind_done bs v d.1 h)

-- what is done stays so
frames_stay : {rs : List Eq} {x y : State} → Move rs x y → FramesDone rs (frames x) → FocusDone rs (focus x) → FramesDone rs (frames y)
frames_stay (known k d) b h = b
frames_stay (at_once i r s e is) b h = b
frames_stay no_parts b h = b
frames_stay go_in b h = (tt, b)
frames_stay (go_on {bs = bs} {v = v}) b h = (behind_done bs v b.0 h, b.1)
frames_stay go_out b h = b.1
frames_stay (known_sign k d) b h = b
frames_stay (by_rule i r s e is) b h = b
frames_stay (no_rule n) b h = b

focus_stays : {rs : List Eq} {x y : State} → Move rs x y → FramesDone rs (frames x) → FocusDone rs (focus x) → FocusDone rs (focus y)
focus_stays (known k d) b h = d
focus_stays (at_once i r s e is) b h = tt
focus_stays no_parts b h = tt
focus_stays go_in b h = tt
focus_stays go_on b h = tt
focus_stays (go_out {bs = bs} {v = v}) b h = behind_done bs v b.0 h
focus_stays (known_sign k d) b h = d
focus_stays (by_rule i r s e is) b h = tt
focus_stays (no_rule {f = f} {ts = ts} n) b h = sign_done f ts h n

module _ (b : Book) (fine : Fine b) (down : AllDown (rank b.ranks) b.rules) where
  pub move_fits : {x y : State} → Move b.rules x y → Fits b.parts (whole x) → Fits b.parts (whole y)
  move_fits m f = steps_keep b fine down (move_steps m) f

  pub move_valid : {x y : State} → Move b.rules x y → Valid b x → Valid b y
  move_valid m v = record {
    fits = move_fits m v.fits;
    frames_done = frames_stay m v.frames_done v.focus_done;
    focus_done = focus_stays m v.frames_done v.focus_done;
  }

  pub moves_valid : {x y : State} → Moves b.rules x y → Valid b x → Valid b y
  moves_valid rest v = v
  moves_valid (move m ms) v = moves_valid ms (move_valid m v)

pub start_valid : (b : Book) (t : Term) → Fits b.parts t → Valid b (start t)
start_valid b t f = record { fits = f; frames_done = tt; focus_done = tt }

pub machine_valid_lem : MachineValid
machine_valid_lem b fine down = record {
  starts = start_valid b;
  move = λ x y m v. move_valid b fine down m v;
  moves = λ x y ms v. moves_valid b fine down ms v;
  done = λ v h. h.focus_done;
  result = λ t v f ms. (moves_steps ms, (moves_valid b fine down ms (start_valid b t f)).focus_done);
}
