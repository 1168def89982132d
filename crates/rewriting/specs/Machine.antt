-- A machine that brings terms to normal form: a stack of frames, and a focus that is worked at.
use Rattle.std.specs.Prelude.{◌≡◌, ◌⊎◌, List, [], ◌∷◌, ℕ, suc, ◌+◌, ◌<◌, ◌≤◌, length}
use Rattle.std.proofs.Math.Option.{Option, some, none}
use Rattle.rewriting.specs.Terms.{nth, Term, sign, Terms, none1, and1, put, count, glue, Fits}
use Rattle.rewriting.specs.Rules.{Eq, Steps, Done}
use Rattle.rewriting.specs.Books.{Book}

-- a sign, those of its parts that are done, in order, and the parts behind the one that is worked at
pub data Frame : Type 0 where
  frame : ℕ → Terms → Terms → Frame

-- a term to be brought to normal form; a normal form that goes to the top frame; a sign all of whose parts are done
pub data Focus : Type 0 where
  eval : Term → Focus
  back : Term → Focus
  apply : ℕ → Terms → Focus

-- the frames, the top one first, and the focus
pub data State : Type 0 where
  state : List Frame → Focus → State

abbrev pub frames : State → List Frame
frames (state ks c) = ks

abbrev pub focus : State → Focus
focus (state ks c) = c

-- parts with one more behind them
abbrev pub behind : Terms → Term → Terms
behind bs v = glue bs (and1 v none1)

-- the term of a focus; a term in its frame, and in all frames; the term that a state stands for
abbrev pub focal : Focus → Term
focal (eval t) = t
focal (back v) = v
focal (apply f ts) = sign f ts

abbrev pub around : Frame → Term → Term
around (frame f bs ts) t = sign f (glue bs (and1 t ts))

abbrev pub plug : List Frame → Term → Term
plug [] t = t
plug (k ∷ ks) t = plug ks (around k t)

abbrev pub whole : State → Term
whole (state ks c) = plug ks (focal c)

abbrev pub start : Term → State
start t = state [] (eval t)

abbrev pub finished : Term → State
finished v = state [] (back v)

-- no rule can be used at the top of t
abbrev pub Still : List Eq → Term → Type 0
Still rs t = (i : ℕ) (r : Eq) → nth rs i ≡ some r → (s : ℕ → Term) → put s r.left ≡ t → ⊥

-- none of the rules before rule i can be used at the top of t
abbrev pub StillBefore : List Eq → ℕ → Term → Type 0
StillBefore rs i t = (j : ℕ) (r : Eq) → j < i → nth rs j ≡ some r → (s : ℕ → Term) → put s r.left ≡ t → ⊥

-- one move. Which rule is used, whether at once or when the parts are done, and where a known normal form is taken, is left open
pub data Move (rs : List Eq) : State → State → Type 0 where
  -- its normal form is known: it is one itself, or the normal form is remembered
  known : {ks : List Frame} {t v : Term} → Steps rs t v → Done rs v → Move rs (state ks (eval t)) (state ks (back v))
  -- by a rule before its parts are looked at
  at_once : {ks : List Frame} {t : Term} (i : ℕ) (r : Eq) (s : ℕ → Term) → nth rs i ≡ some r → put s r.left ≡ t →
      Move rs (state ks (eval t)) (state ks (eval (put s r.right)))
  -- to its parts, from one to the next, and back to the sign
  no_parts : {ks : List Frame} {f : ℕ} → Move rs (state ks (eval (sign f none1))) (state ks (apply f none1))
  go_in : {ks : List Frame} {f : ℕ} {t : Term} {ts : Terms} →
      Move rs (state ks (eval (sign f (and1 t ts)))) (state (frame f none1 ts ∷ ks) (eval t))
  go_on : {ks : List Frame} {f : ℕ} {bs ts : Terms} {v t : Term} →
      Move rs (state (frame f bs (and1 t ts) ∷ ks) (back v)) (state (frame f (behind bs v) ts ∷ ks) (eval t))
  go_out : {ks : List Frame} {f : ℕ} {bs : Terms} {v : Term} →
      Move rs (state (frame f bs none1 ∷ ks) (back v)) (state ks (apply f (behind bs v)))
  -- with its parts done: the normal form is known; by a rule; or it is one itself
  known_sign : {ks : List Frame} {f : ℕ} {ts : Terms} {v : Term} → Steps rs (sign f ts) v → Done rs v →
      Move rs (state ks (apply f ts)) (state ks (back v))
  by_rule : {ks : List Frame} {f : ℕ} {ts : Terms} (i : ℕ) (r : Eq) (s : ℕ → Term) → nth rs i ≡ some r → put s r.left ≡ sign f ts →
      Move rs (state ks (apply f ts)) (state ks (eval (put s r.right)))
  no_rule : {ks : List Frame} {f : ℕ} {ts : Terms} → Still rs (sign f ts) → Move rs (state ks (apply f ts)) (state ks (back (sign f ts)))

-- any number of moves
pub data Moves (rs : List Eq) : State → State → Type 0 where
  rest : {x : State} → Moves rs x x
  move : {x y z : State} → Move rs x y → Moves rs y z → Moves rs x z

-- if a move is by a rule, it is by the lowest-numbered one that can be used there. Nothing is said of other moves: not how a known normal
-- form was come to
abbrev pub ByLowest : {rs : List Eq} {x y : State} → Move rs x y → Type 0
ByLowest {rs} (at_once {t = t} i r s e is) = StillBefore rs i t
ByLowest {rs} (by_rule {f = f} {ts = ts} i r s e is) = StillBefore rs i (sign f ts)
ByLowest m = Unit {0}

-- such a move
pub record LowestMove (rs : List Eq) (x y : State) : Type 0 where
  pub move : Move rs x y
  pub lowest : ByLowest move

-- any number of them
pub data LowestMoves (rs : List Eq) : State → State → Type 0 where
  no_move : {x : State} → LowestMoves rs x x
  move_on : {x y z : State} → LowestMove rs x y → LowestMoves rs y z → LowestMoves rs x z

-- what stays true: the whole is over the signature, and what should be done is
abbrev pub AllDone : List Eq → Terms → Type 0
AllDone rs none1 = Unit {0}
AllDone rs (and1 t ts) = Done rs t × AllDone rs ts

abbrev pub FramesDone : List Eq → List Frame → Type 0
FramesDone rs [] = Unit {0}
FramesDone rs (frame f bs ts ∷ ks) = AllDone rs bs × FramesDone rs ks

abbrev pub FocusDone : List Eq → Focus → Type 0
FocusDone rs (eval t) = Unit {0}
FocusDone rs (back v) = Done rs v
FocusDone rs (apply f ts) = AllDone rs ts

pub record Valid (b : Book) (x : State) : Type 0 where
  pub fits : Fits b.parts (whole x)
  pub frames_done : FramesDone b.rules (frames x)
  pub focus_done : FocusDone b.rules (focus x)

-- the terms that a state holds: those of the focus, and the parts in its frames
abbrev pub before : Terms → List Term → List Term
before none1 us = us
before (and1 t ts) us = t ∷ before ts us

abbrev pub held_frames : List Frame → List Term
held_frames [] = []
held_frames (frame f bs ts ∷ ks) = before bs (before ts (held_frames ks))

abbrev pub held : State → List Term
held (state ks (eval t)) = t ∷ held_frames ks
held (state ks (back v)) = v ∷ held_frames ks
held (state ks (apply f ts)) = before ts (held_frames ks)

-- how many parts the frames hold
abbrev pub places : List Frame → ℕ
places [] = 0
places (frame f bs ts ∷ ks) = count bs + count ts + places ks

-- each frame lacks one of its sign's parts
abbrev pub FramesFit : List ℕ → List Frame → Type 0
FramesFit ps [] = Unit {0}
FramesFit ps (frame f bs ts ∷ ks) = (nth ps f ≡ some (count bs + 1 + count ts)) × FramesFit ps ks

-- what is asked for at each depth, if it is still known: a term from which steps have led to the one that is worked at there, so that
-- what comes of this one is its normal form too; at the focus and in each frame
abbrev pub Requests : Type 0
Requests = ℕ → Option Term

abbrev pub Led : List Eq → Option Term → Term → Type 0
Led rs none t = Unit {0}
Led rs (some q) t = Steps rs q t

abbrev pub Asked : List Eq → Requests → List Frame → Term → Type 0
Asked rs q [] t = Led rs (q 0) t
Asked rs q (k ∷ ks) t = Led rs (q (suc (length ks))) t × Asked rs q ks (around k t)

-- p is as q down to depth n, or has forgotten
abbrev pub Recalls : ℕ → Requests → Requests → Type 0
Recalls n p q = (d : ℕ) → d ≤ n → (p d ≡ q d) ⊎ (p d ≡ none)
