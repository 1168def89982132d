-- Where the machine stands: the state of the model that the store, its roots and the frames say, and what stays true of them.
use Rattle.std.specs.Prelude.{◌≡◌, ℕ, zero, suc, ◌+◌, ◌-◌, ◌<◌, ◌≤◌, true, List, [], ◌∷◌, length, Some}
use Rattle.rewriting.specs.Terms.{Term, Terms, none1, and1}
use Rattle.rewriting.specs.Rules.{Eq, Steps, Done}
use Rattle.rewriting.specs.Machine.{frame, eval, back, State, state, around}
use Rattle.rewriting.specs.Machine.{Frame as ModelFrame, Focus as ModelFocus}
use Rattle.store.specs.declared.types.Store.{Store}
use Rattle.store.specs.declared.types.Place.{Place}
use Rattle.store.specs.Stores.{Sound, term_in, flag_in, note_in, held, Inside}
use Rattle.engine.specs.declared.types.Frame.{Frame}
use Rattle.engine.specs.declared.types.Frames.{Frames}
use Rattle.engine.specs.declared.types.Focus.{Focus}
use Rattle.engine.specs.declared.types.Focus.TheVariants.{Eval, Back}
use Rattle.engine.specs.declared.work.Work.{Work}
use Rattle.engine.specs.Frames.{frame_at, FramesFit}

-- the terms g from1, g (from1 + 1), .., n of them
abbrev pub run : (ℕ → Term) → ℕ → ℕ → Terms
run g from1 zero = none1
run g from1 (suc n) = and1 (g from1) (run g (from1 + 1) n)

-- a frame's other parts are roots, from one on: first those that are done, then those that wait
abbrev pub frame_of : (ℕ → Term) → Frame → ℕ → ModelFrame
frame_of g k from1 = frame k.sign (run g from1 k.done) (run g (from1 + k.done) (k.others - k.done))

-- d frames, with the roots below one
abbrev pub frames_of : (ℕ → Term) → List ℕ → ℕ → ℕ → List ModelFrame
frames_of g ws zero end = []
frames_of g ws (suc d) end =
    frame_of g (frame_at ws d) (end - (frame_at ws d).others) ∷ frames_of g ws d (end - (frame_at ws d).others)

-- their parts are the roots from a lowest one on
abbrev pub Framed : List ℕ → ℕ → ℕ → ℕ → Type 0
Framed ws zero end low = end ≡ low
Framed ws (suc d) end low = ((frame_at ws d).others ≤ 3) × ((frame_at ws d).done ≤ (frame_at ws d).others) × ((frame_at ws d).others ≤ end)
    × Framed ws d (end - (frame_at ws d).others) low

-- the focus
abbrev pub focus_place : Focus → ℕ
focus_place (Eval p) = p.0
focus_place (Back p) = p.0

abbrev pub focus_of : Store → Focus → ModelFocus
focus_of st (Eval p) = eval (term_in st p.0)
focus_of st (Back p) = back (term_in st p.0)

abbrev pub frames_in : Work → List ModelFrame
frames_in w = frames_of (λ k. held w.store w.roots k) w.frames.words.now w.frames.depth w.roots.top

abbrev pub state_in : Work → Focus → State
state_in w c = state (frames_in w) (focus_of w.store c)

-- P holds at each depth of what is worked at there
abbrev pub Asks : (ℕ → Term → Type 0) → List ModelFrame → Term → Type 0
Asks P [] t = Unit {0}
Asks P (k ∷ ks) t = P (length ks) t × Asks P ks (around k t)

-- what frame d asked for, if it still knows: a term from which steps have led to t
abbrev pub AskedFor : List Eq → Store → Frames → ℕ → Term → Type 0
AskedFor rs st fr d t = fr.fresh ≤ d → (p : Place) → (frame_at fr.words.now d).asked ≡ Some p →
    (p.0 < st.count) × Steps rs (term_in st p.0) t

-- flags and notes are right: a term with a flag is a normal form, and a note is the place of a normal form
pub record Honest (rs : List Eq) (st : Store) : Type 0 where
  pub flags : (i : ℕ) → i < st.count → flag_in st i ≡ true → Done rs (term_in st i)
  pub inside : (i : ℕ) → i < st.count → 0 < note_in st i → note_in st i ≤ st.count
  pub steps : (i : ℕ) → i < st.count → 0 < note_in st i → Steps rs (term_in st i) (term_in st (note_in st i - 1))
  pub done : (i : ℕ) → i < st.count → 0 < note_in st i → Done rs (term_in st (note_in st i - 1))

-- what stays true
pub record Running (rs : List Eq) (low : ℕ) (w : Work) (c : Focus) : Type 0 where
  pub honest : Honest rs w.store
  pub inside : Inside w.store w.roots
  pub frames : FramesFit w.frames
  pub framed : Framed w.frames.words.now w.frames.depth w.roots.top low
  pub focus : focus_place c < w.store.count
  pub asked : Asks (AskedFor rs w.store w.frames) (frames_in w) (term_in w.store (focus_place c))

-- the terms of a store are kept, and its flags and notes are right
pub record Holding (rs : List Eq) (a b : Store) : Type 0 where
  pub sound : Sound b
  pub honest : Honest rs b
  pub room : b.room ≡ a.room
  pub longer : a.count ≤ b.count
  pub terms : (i : ℕ) → i < a.count → term_in b i ≡ term_in a i
