-- What the machine does, as types. Each is the contract of a function of this crate.
use Rattle.std.specs.Prelude.{◌≡◌, ◌⊎◌, List, [], ◌∷◌, ◌++◌, ℕ, suc, ◌+◌, ◌*◌, ◌<◌, ◌≤◌, length}
use Rattle.rewriting.specs.Terms.{Term, letter, sign, Terms, none1, and1, put, In, Fits}
use Rattle.rewriting.specs.Rules.{Eq, Step, Steps, Done, Part}
use Rattle.rewriting.specs.Different.{different, PartOf, listed}
use Rattle.rewriting.specs.Order.{rank, AllDown}
use Rattle.rewriting.specs.Books.{Book, Fine}
use Rattle.rewriting.specs.Machine.{Frame, frame, eval, back, State, state, frames, behind, plug, whole, start, finished}
use Rattle.rewriting.specs.Machine.{Move, Moves, Valid, held, places, FramesFit, Requests, Led, Asked, Recalls}

-- one or more steps
abbrev pub Leads : List Eq → Term → Term → Type 0
Leads rs t v = (u : Term) × Step rs t u × Steps rs u v

-- each move keeps the whole term or leads on from it
pub record MachineSteps : Type 0 where
  pub move : (rs : List Eq) (x y : State) → Move rs x y → (whole x ≡ whole y) ⊎ Leads rs (whole x) (whole y)
  pub moves : (rs : List Eq) (x y : State) → Moves rs x y → Steps rs (whole x) (whole y)

-- what is valid stays so, and what a finished state has is done
pub record StaysValid (b : Book) : Type 0 where
  pub starts : (t : Term) → Fits b.parts t → Valid b (start t)
  pub move : (x y : State) → Move b.rules x y → Valid b x → Valid b y
  pub moves : (x y : State) → Moves b.rules x y → Valid b x → Valid b y
  pub done : (v : Term) → Valid b (finished v) → Done b.rules v
  pub result : (t v : Term) → Fits b.parts t → Moves b.rules (start t) (finished v) → Steps b.rules t v × Done b.rules v

abbrev pub MachineValid : Type 0
MachineValid = (b : Book) → Fine b → AllDown (rank b.ranks) b.rules → StaysValid b

-- a number for each state that every move makes smaller
abbrev pub MovesFall : (Book → State → ℕ) → Type 0
MovesFall cost = (b : Book) → Fine b → AllDown (rank b.ranks) b.rules →
    (x y : State) → Fits b.parts (whole x) → Move b.rules x y → cost b y < cost b x

abbrev pub MachineCost : Type 0
MachineCost = (cost : Book → State → ℕ) × MovesFall cost

-- there is a move until the machine is finished, and it comes to be
pub record GoesOn (b : Book) : Type 0 where
  pub letters : (ks : List Frame) (x : ℕ) → Move b.rules (state ks (eval (letter x))) (state ks (back (letter x)))
  pub next : (x : State) → ((y : State) × Move b.rules x y) ⊎ ((v : Term) × (x ≡ finished v))
  pub comes : (t : Term) → Fits b.parts t → (v : Term) × Moves b.rules (start t) (finished v)

abbrev pub MachineEnds : Type 0
MachineEnds = (b : Book) → Fine b → AllDown (rank b.ranks) b.rules → GoesOn b

-- how much a state holds, against the different parts of the whole: frames, and the parts of what it holds, also beside other terms;
-- and the same of any terms that are parts of a term, such as those that are made for a rule's right side, or of one of two
pub record MachineRoom : Type 0 where
  pub depth : (x : State) → length (frames x) < different (whole x ∷ [])
  pub focus_part : (ks : List Frame) (t v : Term) → Part v t → Part v (plug ks t)
  pub put_part : (s : ℕ → Term) (t v : Term) → Part v t → Part (put s v) (put s t)
  pub letter_part : (x : ℕ) (t : Term) → In x t → Part (letter x) t
  pub held_part : (x : State) (v : Term) → PartOf v (held x) → Part v (whole x)
  pub holds : (x : State) → different (held x) ≤ different (whole x ∷ [])
  pub holds_beside : (us : List Term) (x : State) → different (us ++ held x) ≤ different us + different (whole x ∷ [])
  pub parts : (t : Term) (g : ℕ → Term) (n : ℕ) → ((k : ℕ) → k < n → Part (g k) t) → different (listed g n) ≤ different (t ∷ [])
  pub parts_beside : (t u : Term) (g : ℕ → Term) (n : ℕ) → ((k : ℕ) → k < n → Part (g k) t ⊎ Part (g k) u) →
      different (listed g n) ≤ different (t ∷ []) + different (u ∷ [])

-- each frame lacks one part, so a frame holds no more than three
pub record MachinePlaces : Type 0 where
  pub fit : (ps : List ℕ) (ks : List Frame) (t : Term) → Fits ps (plug ks t) → FramesFit ps ks × Fits ps t
  pub few : (b : Book) → Fine b → (x : State) → Fits b.parts (whole x) → places (frames x) ≤ 3 * length (frames x)

-- what was asked for stays so in each kind of move, and answers are right
pub record MachineRemembers : Type 0 where
  pub answers : (rs : List Eq) (q : Requests) (ks : List Frame) (t : Term) → Asked rs q ks t → Led rs (q (length ks)) t
  pub forgets : (rs : List Eq) (p q : Requests) (ks : List Frame) (t : Term) → Recalls (length ks) p q → Asked rs q ks t → Asked rs p ks t
  pub steps : (rs : List Eq) (q : Requests) (ks : List Frame) (t u : Term) → Steps rs t u → Asked rs q ks t → Asked rs q ks u
  pub goes_in : (rs : List Eq) (p q : Requests) (ks : List Frame) (f : ℕ) (t : Term) (ts : Terms) →
      Recalls (length ks) p q → Led rs (p (suc (length ks))) t → Asked rs q ks (sign f (and1 t ts)) → Asked rs p (frame f none1 ts ∷ ks) t
  pub goes_on : (rs : List Eq) (p q : Requests) (ks : List Frame) (f : ℕ) (bs : Terms) (v t : Term) (ts : Terms) →
      Recalls (length ks) p q → Led rs (p (suc (length ks))) t →
      Asked rs q (frame f bs (and1 t ts) ∷ ks) v → Asked rs p (frame f (behind bs v) ts ∷ ks) t
  pub goes_out : (rs : List Eq) (q : Requests) (ks : List Frame) (f : ℕ) (bs : Terms) (v : Term) →
      Asked rs q (frame f bs none1 ∷ ks) v → Asked rs q ks (sign f (behind bs v))
