-- A turn that goes from one part of a sign to the next.
use Rattle.std.proofs.Common.{◌≡◌, ℕ, suc, ◌+◌, ◌-◌, ◌<◌, List, ◌∷◌, sym, refl, ap, ◌∙◌, subst, ap₂, arith}
use native.Mathlib.Decide.{ℕ_discrete}
use Rattle.rewriting.specs.Terms.{Term, Terms, and1}
use Rattle.rewriting.specs.Rules.{Eq}
use Rattle.rewriting.specs.Machine.{frame, eval, back, state, around, behind, go_on, LowestMove, no_move}
use Rattle.rewriting.specs.Machine.{Frame as ModelFrame}
use Rattle.rewriting.proofs.Framing.{around_behind}
use Rattle.store.specs.declared.types.Store.{Store}
use Rattle.store.specs.declared.types.Roots.{Roots}
use Rattle.store.specs.declared.types.Place.{Place}
use Rattle.store.specs.Stores.{term_in, held}
use Rattle.store.specs.Stacks.{root_in, RootSet}
use Rattle.engine.specs.declared.types.Frame.{Frame}
use Rattle.engine.specs.declared.types.Frames.{Frames}
use Rattle.engine.specs.declared.types.Focus.TheVariants.{Eval, Back}
use Rattle.engine.specs.Frames.{frame_at, GoneOn}
use Rattle.engine.specs.Running.{run, frames_of, Framed, frames_in, state_in, Asks, AskedFor, Running}
use Rattle.engine.specs.Turning.{TurnedTo}
use Rattle.engine.proofs.Contexts.{work, run_same, run_behind, run_first, frames_top, framed_top, frames_same, framed_same, framed_low}
use Rattle.engine.proofs.Contexts.{frames_length, asks_map}
use Rattle.engine.proofs.Advancing.{holding_same}
use Rattle.engine.proofs.Going.{asked_less}
use Rattle.engine.proofs.Entering.{asked_new}

-- the top frame of at least one
module _ (rs : List Eq) (low : ℕ) (st : Store) (q : Roots) (fr : Frames) (v : Place) (run1 : Running rs low (work st q fr) (Back v))
    (pos : 0 < fr.depth) where
  abbrev pub top_at : Frame
  top_at = frame_at fr.words.now (fr.depth - 1)

  pub depth_more : fr.depth ≡ suc (fr.depth - 1)
  depth_more = omega arith

  pub framed_more : Framed fr.words.now (suc (fr.depth - 1)) q.top low
  framed_more = subst (λ (d : ℕ). Framed fr.words.now d q.top low) depth_more run1.framed

  module _ (next : Place) (r : Roots) (gr : Frames) (less : top_at.done < top_at.others)
      (at : next.0 ≡ root_in q (q.top - top_at.others + top_at.done))
      (s : RootSet q (q.top - top_at.others + top_at.done) v.0 r) (k : GoneOn fr next gr) where
    abbrev d : ℕ
    d = fr.depth - 1

    abbrev x : Frame
    x = top_at

    abbrev a : ℕ
    a = q.top - x.others

    abbrev i : ℕ
    i = a + x.done

    abbrev g : ℕ → Term
    g j = held st q j

    abbrev h : ℕ → Term
    h j = held st r j

    abbrev ks : List ModelFrame
    ks = frames_of g fr.words.now d a

    abbrev bs : Terms
    bs = run g a x.done

    abbrev ts : Terms
    ts = run g (i + 1) (x.others - x.done - 1)

    abbrev tn : Term
    tn = term_in st next.0

    abbrev tv : Term
    tv = term_in st v.0

    abbrev y : Frame
    y = record { sign = x.sign; others = x.others; done = x.done + 1; asked = k.kept }

    frames_were : frames_in (work st q fr) ≡ frame x.sign bs (and1 tn ts) ∷ ks
    frames_were =
        ap (λ (m : ℕ). frames_of g fr.words.now m q.top) depth_more
        ∙ ap (λ (us : Terms). frame x.sign bs us ∷ ks)
        (run_first g i (x.others - x.done) (omega arith) ∙ ap (λ (j : ℕ). and1 (term_in st j) ts) (sym at))

    same : (j : ℕ) → (j ≡ i → ⊥) → h j ≡ g j
    same j ne = ap (term_in st) (s.rest j ne)

    done_are : run h a (x.done + 1) ≡ behind bs tv
    done_are =
        run_behind h a x.done
        ∙ ap₂ behind (run_same h g a x.done (λ j m l. same j (λ e. omega arith))) (ap (term_in st) s.is)

    waiting_are : run h (a + (x.done + 1)) (x.others - (x.done + 1)) ≡ ts
    waiting_are =
        let e1 : a + (x.done + 1) ≡ i + 1 = omega arith in
        let e2 : x.others - (x.done + 1) ≡ x.others - x.done - 1 = omega arith in
        ap₂ (run h) e1 e2 ∙ run_same h g (i + 1) (x.others - x.done - 1) (λ j m l. same j (λ e. omega arith))

    frames_below : frames_of h gr.words.now d a ≡ ks
    frames_below =
        frames_same g h fr.words.now gr.words.now d a low framed_more.3 (λ j l. same j (λ e. omega arith)) k.words.below

    frames_are : frames_in (work st r gr) ≡ frame x.sign (behind bs tv) ts ∷ ks
    frames_are =
        ap₂ (λ (m e : ℕ). frames_of h gr.words.now m e) (k.depth ∙ depth_more) s.top
        ∙ frames_top h gr.words.now d q.top y k.words.is
        ∙ ap₂ (λ (us : Terms) (ls : List ModelFrame).
        frame x.sign us (run h (a + (x.done + 1)) (x.others - (x.done + 1))) ∷ ls) done_are frames_below
        ∙ ap (λ (us : Terms). frame x.sign (behind bs tv) us ∷ ks) waiting_are

    framed : Framed gr.words.now gr.depth r.top low
    framed =
        subst (λ (m : ℕ). Framed gr.words.now m r.top low) (sym (k.depth ∙ depth_more))
        (subst (λ (e : ℕ). Framed gr.words.now (suc d) e low) (sym s.top)
        (framed_top gr.words.now d q.top low y k.words.is framed_more.0 (omega arith) framed_more.2
        (framed_same fr.words.now gr.words.now d a low k.words.below framed_more.3)))

    low_roots : (j : ℕ) → j < r.top → root_in r j < st.count
    low_roots j l = aux (ℕ_discrete j i)
      where
        aux : Dec (j ≡ i) → root_in r j < st.count
        aux (yes e) =
            let z : root_in r j ≡ v.0 = ap (λ (m : ℕ). root_in r m) e ∙ s.is in
            omega (arith, z, run1.focus)
        aux (no ne) = omega (arith, s.rest j ne, run1.inside.low j (omega (arith, s.top)))

    next_inside : next.0 < st.count
    next_inside = omega (arith, at, run1.inside.low i (omega (arith, framed_more.2)))

    asked : Asks (AskedFor rs st gr) (frame x.sign (behind bs tv) ts ∷ ks) tn
    asked =
        let was : Asks (AskedFor rs st fr) (frame x.sign bs (and1 tn ts) ∷ ks) tv =
        subst (λ (ls : List ModelFrame). Asks (AskedFor rs st fr) ls tv) frames_were run1.asked in (
          subst (λ (m : ℕ). AskedFor rs st gr m tn) (sym (frames_length g fr.words.now d a))
              (asked_new rs st gr d k.kept next (ap (λ (z : Frame). z.asked) k.words.is) k.asked next_inside),
          subst (Asks (AskedFor rs st gr) ks) (sym (around_behind x.sign bs tv tn ts))
              (asks_map (AskedFor rs st fr) (AskedFor rs st gr) ks (around (frame x.sign bs (and1 tn ts)) tv)
              (λ m u l o.
              let lower : m < d = omega (arith, frames_length g fr.words.now d a) in
              asked_less rs st fr gr m u (λ n. k.later m n lower) (k.words.below m lower) o) was.1),
        )

    running : Running rs low (work st r gr) (Eval next)
    running = record {
      honest = run1.honest;
      inside = record { fits = omega (arith, run1.inside.fits, s.long, s.top); low = low_roots };
      frames = record { words = omega (arith, run1.frames.words, k.words.long, k.depth); fresh = omega (arith, k.fresh, k.depth) };
      framed = framed;
      focus = next_inside;
      asked = subst (λ (ls : List ModelFrame). Asks (AskedFor rs st gr) ls tn) (sym frames_are) asked;
    }

    pub gone_on : TurnedTo rs low (work st q fr) (Back v) (work st r gr) (Eval next)
    gone_on = record {
      holding = holding_same rs st v run1.honest;
      running = running;
      goes = (
        state_in (work st r gr) (Eval next),
        subst (λ (ls : List ModelFrame). LowestMove rs (state ls (back tv)) (state (frames_in (work st r gr)) (eval tn))) (sym frames_were)
            (subst (λ (ls : List ModelFrame). LowestMove rs (state (frame x.sign bs (and1 tn ts) ∷ ks) (back tv)) (state ls (eval tn)))
            (sym frames_are) (record { move = go_on; lowest = tt })),
        no_move,
      );
      kept = record {
        room = refl;
        cells = s.long;
        words = k.words.long;
        terms = λ j l. same j (λ e. omega (arith, framed_low fr.words.now d a low framed_more.3));
      };
    }
