-- A turn that goes to the first part of a sign.
use Rattle.std.proofs.Common.{◌≡◌, ℕ, suc, ◌+◌, ◌-◌, ◌<◌, ◌≤◌, List, ◌∷◌, Option, Some, None, sym, refl, ap, ◌∙◌, subst, ap₂, inl, inr}
use Rattle.std.proofs.Common.{add-one, arith}
use Rattle.std.proofs.lemmas.Option.{none-some}
use native.Mathlib.Decide.{dec_lt}
use Rattle.rewriting.specs.Terms.{Term, sign, Terms, none1, and1}
use Rattle.rewriting.specs.Rules.{Eq, Steps, stay}
use Rattle.rewriting.specs.Machine.{frame, eval, state, go_in, LowestMove, no_move}
use Rattle.rewriting.specs.Machine.{Frame as ModelFrame}
use Rattle.store.specs.declared.types.Store.{Store}
use Rattle.store.specs.declared.types.Roots.{Roots}
use Rattle.store.specs.declared.types.Place.{Place}
use Rattle.store.specs.Slots.{parts_by}
use Rattle.store.specs.Stores.{term_in, arity_in, part_in, parts_in, held, Inside}
use Rattle.store.specs.Roots.{HasRoots}
use Rattle.store.specs.Stacks.{root_in}
use Rattle.engine.specs.declared.types.Frame.{Frame}
use Rattle.engine.specs.declared.types.Frames.{Frames}
use Rattle.engine.specs.declared.types.Focus.TheVariants.{Eval}
use Rattle.engine.specs.Frames.{frame_at, Remembered, FramePushed}
use Rattle.engine.specs.Running.{run, frames_of, Framed, frames_in, state_in, Asks, AskedFor, Running, Honest}
use Rattle.engine.specs.Turning.{SpaceForTurn, TurnedTo, OthersPushed, KeptBelow}
use Rattle.engine.proofs.Contexts.{work, run_shift, run_by, frames_top, framed_top, frames_same, framed_same, framed_low}
use Rattle.engine.proofs.Contexts.{frames_length, asks_map}
use Rattle.engine.proofs.Advancing.{holding_same}
use Rattle.engine.proofs.Going.{asked_less}

abbrev number : Option Place → ℕ
number None = 0
number (Some p) = p.0

-- a place that is remembered, or not
pub asked_new : (rs : List Eq) (st : Store) (gr : Frames) (d : ℕ) (w : Option Place) (p : Place) → (frame_at gr.words.now d).asked ≡ w →
    Remembered (Some p) w → p.0 < st.count → AskedFor rs st gr d (term_in st p.0)
asked_new rs st gr d w p e (inl z) l f o g = absurd (none-some o (sym z ∙ sym e ∙ g))
asked_new rs st gr d w p e (inr z) l f o g =
    let same : p.0 ≡ o.0 = ap number (sym z ∙ sym e ∙ g) in
    (omega (arith, l, same), subst (λ (i : ℕ). Steps rs (term_in st i) (term_in st p.0)) same stay)

-- a term u is worked at, a sign whose parts stand at the places ps 0, .., ps n: from its first part on
module _ (rs : List Eq) (low : ℕ) (st : Store) (q : Roots) (fr : Frames) (u : Term) (ps : ℕ → ℕ) (f n : ℕ) (first : Place) (r : Roots)
    (gr : Frames) (honest : Honest rs st) (inside : Inside st q) (below : Framed fr.words.now fr.depth q.top low)
    (asked1 : Asks (AskedFor rs st fr) (frames_in (work st q fr)) u) (few : n ≤ 3)
    (is : u ≡ sign f (parts_by (λ j. term_in st j) ps 0 (suc n))) (at : first.0 ≡ ps 0) (there : (k : ℕ) → k ≤ n → ps k < st.count)
    (space : HasRoots q.cells.now (q.top + 3)) (o : OthersPushed ps q n r) (k : FramePushed fr f n first gr) where
  abbrev g : ℕ → Term
  g i = held st q i

  abbrev h : ℕ → Term
  h i = held st r i

  abbrev ks : List ModelFrame
  ks = frames_in (work st q fr)

  abbrev ts : Terms
  ts = parts_by (λ j. term_in st j) ps 1 n

  abbrev t0 : Term
  t0 = term_in st first.0

  abbrev top_frame : Frame
  top_frame = record { sign = f; others = n; done = 0; asked = k.kept }

  end_is : q.top + n - n ≡ q.top
  end_is = omega arith

  parts_are : u ≡ sign f (and1 t0 ts)
  parts_are = is ∙ ap (λ (i : ℕ). sign f (and1 (term_in st i) ts)) (sym at)

  first_there : first.0 < st.count
  first_there = omega (arith, at, there 0 (omega arith))

  others_are : run h q.top n ≡ ts
  others_are =
      run_shift h (λ j. term_in st (ps j)) q.top 1 n
      (λ j l. let z : j + 1 ≡ 1 + j = omega arith in
      ap (term_in st) (o.parts j l) ∙ ap (λ (m : ℕ). term_in st (ps m)) z)
      ∙ run_by (λ j. term_in st j) ps 1 n

  frames_below : frames_of h gr.words.now fr.depth q.top ≡ ks
  frames_below =
      frames_same g h fr.words.now gr.words.now fr.depth q.top low below
      (λ i l. ap (term_in st) (o.rest i l)) k.words.below

  depth_is : gr.depth ≡ suc fr.depth
  depth_is = k.depth ∙ add-one fr.depth

  frames_are : frames_in (work st r gr) ≡ frame f none1 ts ∷ ks
  frames_are =
      let a0 : q.top + 0 ≡ q.top = omega arith in
      let n0 : n - 0 ≡ n = omega arith in
      ap₂ (λ (d e : ℕ). frames_of h gr.words.now d e) depth_is o.top
      ∙ frames_top h gr.words.now fr.depth (q.top + n) top_frame k.words.is
      ∙ ap (λ (m : ℕ). frame f none1 (run h (m + 0) (n - 0)) ∷ frames_of h gr.words.now fr.depth m) end_is
      ∙ ap₂ (λ (a b : ℕ). frame f none1 (run h a b) ∷ frames_of h gr.words.now fr.depth q.top) a0 n0
      ∙ ap₂ (λ (us : Terms) (ls : List ModelFrame). frame f none1 us ∷ ls) others_are frames_below

  framed : Framed gr.words.now gr.depth r.top low
  framed =
      subst (λ (d : ℕ). Framed gr.words.now d r.top low) (sym depth_is)
      (subst (λ (e : ℕ). Framed gr.words.now (suc fr.depth) e low) (sym o.top)
      (framed_top gr.words.now fr.depth (q.top + n) low top_frame k.words.is few (omega arith) (omega arith)
      (subst (λ (e : ℕ). Framed gr.words.now fr.depth e low) (sym end_is)
      (framed_same fr.words.now gr.words.now fr.depth q.top low k.words.below below))))

  low_roots : (i : ℕ) → i < r.top → root_in r i < st.count
  low_roots i l = aux (dec_lt i q.top)
    where
      aux : Dec (i < q.top) → root_in r i < st.count
      aux (yes m) = omega (arith, o.rest i m, inside.low i m)
      aux (no m) =
          let j = i - q.top in
          let z : q.top + j ≡ i = omega arith in
          let e : root_in r i ≡ ps (j + 1) =
          ap (λ (x : ℕ). root_in r x) (sym z) ∙ o.parts j (omega (arith, o.top)) in
          omega (arith, e, there (j + 1) (omega (arith, o.top)))

  asked : Asks (AskedFor rs st gr) (frame f none1 ts ∷ ks) t0
  asked = (
    subst (λ (d : ℕ). AskedFor rs st gr d t0)
        (sym (frames_length g fr.words.now fr.depth q.top))
        (asked_new rs st gr fr.depth k.kept first (ap (λ (x : Frame). x.asked) k.words.is) k.asked first_there),
    asks_map (AskedFor rs st fr) (AskedFor rs st gr) ks (sign f (and1 t0 ts))
        (λ d v l a. asked_less rs st fr gr d v (λ m. omega (arith, k.fresh))
        (k.words.below d (omega (arith, frames_length g fr.words.now fr.depth q.top))) a)
        (subst (Asks (AskedFor rs st fr) ks) parts_are asked1),
  )

  pub runs_in : fr.fresh ≤ fr.depth → Running rs low (work st r gr) (Eval first)
  runs_in forgotten = record {
    honest = honest;
    inside = record { fits = omega (arith, space, o.cells, o.top); low = low_roots };
    frames = record { words = k.long; fresh = omega (arith, k.depth, k.fresh, forgotten) };
    framed = framed;
    focus = first_there;
    asked = subst (λ (ls : List ModelFrame). Asks (AskedFor rs st gr) ls t0) (sym frames_are) asked;
  }

  pub moves_in : LowestMove rs (state ks (eval u)) (state_in (work st r gr) (Eval first))
  moves_in =
      subst (λ (ls : List ModelFrame). LowestMove rs (state ks (eval u)) (state ls (eval t0))) (sym frames_are)
      (subst (λ (t : Term). LowestMove rs (state ks (eval t)) (state (frame f none1 ts ∷ ks) (eval t0))) (sym parts_are)
      (record { move = go_in; lowest = tt }))

  pub kept_in : KeptBelow low (work st q fr) (work st r gr)
  kept_in = record {
    room = refl;
    cells = o.cells;
    words = k.words.long;
    terms = λ i l. ap (term_in st) (o.rest i (omega (arith, framed_low fr.words.now fr.depth q.top low below)));
  }

-- a sign in the store
module _ (rs : List Eq) (low : ℕ) (st : Store) (q : Roots) (fr : Frames) (p : Place) (f n : ℕ) (first : Place) (r : Roots) (gr : Frames)
    (run1 : Running rs low (work st q fr) (Eval p)) (few : n ≤ 3) (arity : arity_in st p.0 ≡ n + 1)
    (is : term_in st p.0 ≡ sign f (parts_in st p.0 (n + 1))) (at : first.0 ≡ part_in st p.0 0)
    (space : SpaceForTurn (work st q fr)) (o : OthersPushed (λ k. part_in st p.0 k) q n r) (k : FramePushed fr f n first gr) where
  abbrev ps : ℕ → ℕ
  ps i = part_in st p.0 i

  parts_of : term_in st p.0 ≡ sign f (parts_by (λ j. term_in st j) ps 0 (suc n))
  parts_of = is ∙ ap (λ (m : ℕ). sign f (parts_in st p.0 m)) (add-one n)

  there : (i : ℕ) → i ≤ n → ps i < st.count
  there i l = omega (arith, st.shared.shape.below p.0 i run1.focus (omega (arith, arity)), run1.focus)

  pub gone_in : TurnedTo rs low (work st q fr) (Eval p) (work st r gr) (Eval first)
  gone_in = record {
    holding = holding_same rs st p run1.honest;
    running = runs_in rs low st q fr (term_in st p.0) ps f n first r gr run1.honest run1.inside run1.framed run1.asked few parts_of at there
        space.roots o k run1.frames.fresh;
    goes = (
      state_in (work st r gr) (Eval first),
      moves_in rs low st q fr (term_in st p.0) ps f n first r gr run1.honest run1.inside run1.framed run1.asked few parts_of at there
          space.roots o k,
      no_move,
    );
    kept = kept_in rs low st q fr (term_in st p.0) ps f n first r gr run1.honest run1.inside run1.framed run1.asked few parts_of at there
        space.roots o k;
  }
