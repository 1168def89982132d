-- Frames by their words and roots: when they stay, and with one part more or less.
use Rattle.std.proofs.Common.{◌≡◌, ℕ, zero, suc, ◌+◌, ◌-◌, ◌<◌, ◌≤◌, List, [], ◌∷◌, length, sym, refl, ap, ◌∙◌, subst, ap₂, arith}
use native.Mathlib.Decide.{dec_lt}
use Rattle.rewriting.specs.Terms.{Term, Terms, none1, and1, glue}
use Rattle.rewriting.specs.Rules.{Eq, Steps, Part, itself, in_part, Parts, in_this, in_later}
use Rattle.rewriting.specs.Machine.{frame, behind, around, plug}
use Rattle.rewriting.specs.Machine.{Frame as ModelFrame}
use Rattle.rewriting.proofs.Framing.{around_steps, part_plug}
use Rattle.rewriting.proofs.Glueing.{glue_after}
use Rattle.store.specs.declared.types.Store.{Store}
use Rattle.store.specs.declared.types.Roots.{Roots}
use Rattle.store.specs.Slots.{parts_by}
use Rattle.engine.specs.declared.types.Frame.{Frame}
use Rattle.engine.specs.declared.types.Frames.{Frames}
use Rattle.engine.specs.declared.work.Work.{Work}
use Rattle.engine.specs.Frames.{frame_at}
use Rattle.engine.specs.Running.{run, frame_of, frames_of, Framed, Asks}

-- a store with its roots and frames
abbrev pub work : Store → Roots → Frames → Work
work st q fr = record { store = st; roots = q; frames = fr }

-- terms in a row
pub run_same : (g h : ℕ → Term) (a n : ℕ) → ((k : ℕ) → a ≤ k → k < a + n → g k ≡ h k) → run g a n ≡ run h a n
run_same g h a zero e = refl
run_same g h a (suc n) e = ap₂ and1 (e a (omega arith) (omega arith)) (run_same g h (a + 1) n (λ k m l. e k (omega arith) (omega arith)))

pub run_behind : (g : ℕ → Term) (a n : ℕ) → run g a (n + 1) ≡ behind (run g a n) (g (a + n))
run_behind g a zero = let x : a ≡ a + 0 = omega arith in ap (λ (m : ℕ). and1 (g m) none1) x
run_behind g a (suc n) =
    let x : a + 1 + n ≡ a + suc n = omega arith in
    let y : suc n + 1 ≡ suc (n + 1) = omega arith in
    ap (run g a) y ∙ ap (and1 (g a)) (run_behind g (a + 1) n ∙ ap (λ (m : ℕ). behind (run g (a + 1) n) (g m)) x)

pub run_first : (g : ℕ → Term) (a n : ℕ) → 0 < n → run g a n ≡ and1 (g a) (run g (a + 1) (n - 1))
run_first g a zero l = absurd (omega arith)
run_first g a (suc n) l = let x : n ≡ suc n - 1 = omega arith in ap (λ (m : ℕ). and1 (g a) (run g (a + 1) m)) x

pub run_shift : (g h : ℕ → Term) (a b n : ℕ) → ((j : ℕ) → j < n → g (a + j) ≡ h (b + j)) → run g a n ≡ run h b n
run_shift g h a b zero e = refl
run_shift g h a b (suc n) e =
    let x : a + 0 ≡ a = omega arith in
    let y : b + 0 ≡ b = omega arith in
    ap₂ and1 (ap g (sym x) ∙ e 0 (omega arith) ∙ ap h y)
    (run_shift g h (a + 1) (b + 1) n (λ j l.
    let z : a + 1 + j ≡ a + (j + 1) = omega arith in
    let w : b + (j + 1) ≡ b + 1 + j = omega arith in
    ap g z ∙ e (j + 1) (omega arith) ∙ ap h w))

-- the parts of a sign are such terms
pub run_by : (d : ℕ → Term) (p : ℕ → ℕ) (k n : ℕ) → run (λ j. d (p j)) k n ≡ parts_by d p k n
run_by d p k zero = refl
run_by d p k (suc n) = ap (and1 (d (p k))) (run_by d p (k + 1) n)

-- the top frame
pub frames_top : (g : ℕ → Term) (ws : List ℕ) (d end : ℕ) (x : Frame) → frame_at ws d ≡ x →
    frames_of g ws (suc d) end ≡ frame_of g x (end - x.others) ∷ frames_of g ws d (end - x.others)
frames_top g ws d end x e = ap (λ (k : Frame). frame_of g k (end - k.others) ∷ frames_of g ws d (end - k.others)) e

pub framed_top : (ws : List ℕ) (d end low : ℕ) (x : Frame) → frame_at ws d ≡ x → x.others ≤ 3 → x.done ≤ x.others → x.others ≤ end →
    Framed ws d (end - x.others) low → Framed ws (suc d) end low
framed_top ws d end low x e a b c w =
    subst (λ (k : Frame). (k.others ≤ 3) × (k.done ≤ k.others) × (k.others ≤ end) × Framed ws d (end - k.others) low) (sym e)
    (a, b, c, w)

-- the same frames
pub frames_same : (g h : ℕ → Term) (vs ws : List ℕ) (d end low : ℕ) → Framed vs d end low → ((k : ℕ) → k < end → h k ≡ g k) →
    ((e : ℕ) → e < d → frame_at ws e ≡ frame_at vs e) → frames_of h ws d end ≡ frames_of g vs d end
frames_same g h vs ws zero end low w e s = refl
frames_same g h vs ws (suc d) end low w e s =
    let k = frame_at vs d in
    ap (λ (x : Frame). frame_of h x (end - x.others) ∷ frames_of h ws d (end - x.others)) (s d (omega arith))
    ∙ ap₂ ◌∷◌
    (ap₂ (frame k.sign) (run_same h g (end - k.others) k.done (λ j m l. e j (omega (arith, w.1, w.2))))
    (run_same h g (end - k.others + k.done) (k.others - k.done) (λ j m l. e j (omega (arith, w.1, w.2)))))
    (frames_same g h vs ws d (end - k.others) low w.3 (λ j l. e j (omega arith)) (λ j l. s j (omega arith)))

pub framed_same : (vs ws : List ℕ) (d end low : ℕ) → ((e : ℕ) → e < d → frame_at ws e ≡ frame_at vs e) → Framed vs d end low →
    Framed ws d end low
framed_same vs ws zero end low s w = w
framed_same vs ws (suc d) end low s w =
    subst (λ (k : Frame). (k.others ≤ 3) × (k.done ≤ k.others) × (k.others ≤ end) × Framed ws d (end - k.others) low)
    (sym (s d (omega arith)))
    (w.0, w.1, w.2, framed_same vs ws d (end - (frame_at vs d).others) low (λ e l. s e (omega arith)) w.3)

pub framed_low : (ws : List ℕ) (d end low : ℕ) → Framed ws d end low → low ≤ end
framed_low ws zero end low w = omega arith
framed_low ws (suc d) end low w = omega (arith, framed_low ws d (end - (frame_at ws d).others) low w.3)

pub frames_length : (g : ℕ → Term) (ws : List ℕ) (d end : ℕ) → length (frames_of g ws d end) ≡ d
frames_length g ws zero end = refl
frames_length g ws (suc d) end = omega (arith, frames_length g ws d (end - (frame_at ws d).others))

-- what is asked for
pub asks_map : (P Q : ℕ → Term → Type 0) (ks : List ModelFrame) (t : Term) →
    ((d : ℕ) (u : Term) → d < length ks → P d u → Q d u) → Asks P ks t → Asks Q ks t
asks_map P Q [] t f a = tt
asks_map P Q (k ∷ ks) t f a =
    (f (length ks) t (omega arith) a.0, asks_map P Q ks (around k t) (λ d u l. f d u (omega arith)) a.1)

pub asks_steps : (rs : List Eq) (P : ℕ → Term → Type 0) (ks : List ModelFrame) (t u : Term) →
    ((d : ℕ) (v w : Term) → Steps rs v w → P d v → P d w) → Steps rs t u → Asks P ks t → Asks P ks u
asks_steps rs P [] t u f h a = tt
asks_steps rs P (k ∷ ks) t u f h a =
    (f (length ks) t u h a.0, asks_steps rs P ks (around k t) (around k u) f (around_steps k h) a.1)

-- each root is a part of the whole
run_part : (g : ℕ → Term) (a n k : ℕ) → a ≤ k → k < a + n → Parts (g k) (run g a n)
run_part g a zero k l m = absurd (omega arith)
run_part g a (suc n) k l m = aux (dec_lt a k) (λ x. run_part g (a + 1) n k (omega arith) (omega arith))
  where
    aux : Dec (a < k) → (a < k → Parts (g k) (run g (a + 1) n)) → Parts (g k) (and1 (g a) (run g (a + 1) n))
    aux (yes x) more1 = in_later (more1 x)
    aux (no x) more1 = let e : a ≡ k = omega arith in subst (λ (j : ℕ). Parts (g k) (and1 (g j) (run g (j + 1) n))) (sym e) (in_this itself)

pub parts_glue : {v : Term} (bs ts : Terms) → Parts v bs → Parts v (glue bs ts)
parts_glue none1 ts x = elim x [ ]
parts_glue (and1 b bs) ts (in_this p) = in_this p
parts_glue (and1 b bs) ts (in_later p) = in_later (parts_glue bs ts p)

pub root_part : (g : ℕ → Term) (ws : List ℕ) (d end low k : ℕ) (t : Term) → Framed ws d end low → low ≤ k → k < end →
    Part (g k) (plug (frames_of g ws d end) t)
root_part g ws zero end low k t w l m = absurd (omega arith)
root_part g ws (suc d) end low k t w l m = aux (dec_lt k a) (dec_lt k (a + x.done)) (λ u n. root_part g ws d a low k u w.3 l n)
  where
    x : Frame
    x = frame_at ws d

    a : ℕ
    a = end - x.others

    ks : List ModelFrame
    ks = frames_of g ws d a

    aux : Dec (k < a) → Dec (k < a + x.done) → ((u : Term) → k < a → Part (g k) (plug ks u)) →
        Part (g k) (plug ks (around (frame_of g x a) t))
    aux (yes h) y more1 = more1 (around (frame_of g x a) t) h
    aux (no h) (yes y) more1 =
        part_plug ks (in_part (parts_glue (run g a x.done) (and1 t (run g (a + x.done) (x.others - x.done)))
        (run_part g a x.done k (omega arith) y)))
    aux (no h) (no y) more1 =
        part_plug ks (in_part (glue_after (run g a x.done)
        (in_later (run_part g (a + x.done) (x.others - x.done) k (omega arith) (omega (arith, w.1, w.2))))))
