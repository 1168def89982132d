-- Space for a turn: after a collection, and where it is wanting.
use Rattle.std.proofs.Common.{◌≡◌, ℕ, zero, suc, ◌+◌, ◌-◌, ◌*◌, ◌<◌, ◌≤◌, List, [], ◌∷◌, length, Ok, Err, Result, sym, refl, ap, ◌∙◌}
use Rattle.std.proofs.Common.{subst, ap₂, add-one, arith, IsErr}
use Rattle.std.proofs.lemmas.Bool.{false≢true}
use native.Mathlib.Decide.{dec_lt}
use Rattle.rewriting.specs.Terms.{Term}
use Rattle.rewriting.specs.Rules.{Eq, Part}
use Rattle.rewriting.specs.Different.{different, listed, PartOf, of_first, of_later}
use Rattle.rewriting.specs.Machine.{eval, back, state, plug, whole}
use Rattle.rewriting.specs.Machine.{Frame as ModelFrame}
use Rattle.rewriting.proofs.Different.{part_trans, part_of_listed, part_in_listed, listed_same, different_mono}
use Rattle.rewriting.proofs.Depth.{depth}
use Rattle.rewriting.proofs.Framing.{part_plug}
use Rattle.store.specs.declared.types.Store.{Store}
use Rattle.store.specs.declared.types.Roots.{Roots}
use Rattle.store.specs.declared.types.Place.{Place}
use Rattle.store.specs.declared.types.Full.{Full}
use Rattle.store.proofs.Sounds.{sound_in}
use Rattle.store.specs.Roots.{root_at}
use Rattle.store.specs.Stacks.{root_in, StackedOn, CutTo}
use Rattle.store.specs.Stores.{term_in, held, Inside}
use Rattle.store.specs.Making.{Reserved}
use Rattle.engine.specs.declared.types.Frames.{Frames}
use Rattle.engine.specs.declared.types.Focus.{Focus}
use Rattle.engine.specs.declared.types.Focus.TheVariants.{Eval, Back}
use Rattle.engine.specs.declared.types.NoRoom.{NoRoom}
use Rattle.engine.specs.Frames.{frame_at, FramesFit, Forgotten}
use Rattle.engine.specs.Running.{Framed, focus_place, focus_of, frames_of, frames_in, state_in, Asks, AskedFor, Running}
use Rattle.engine.specs.Turning.{KeptBelow}
use Rattle.engine.specs.Spacing.{focus_at, Collected, Wanting, few_slots, few_words, few_cells, Halted, WithSpace, SpaceOrHalted}
use Rattle.engine.proofs.Honesty.{honest_carried}
use Rattle.engine.proofs.Contexts.{work, frames_same, framed_same, framed_low, frames_length, asks_map, root_part}

-- a place on top of the roots
module _ (st : Store) (q : Roots) (p : Place) (q1 : Roots) (s : StackedOn q q.top p.0 q1) where
  module _ (su : Store) (r1 : Roots) (full : Full) (v : Reserved st q1 33 su r1 (Err full)) (r : Roots) (cut : CutTo r1 q.top r) where
    abbrev root_same : (k : ℕ) → root_in r k ≡ root_in r1 k
    root_same k = ap (λ (cs : List ℕ). root_at cs k) cut.cells

    inside_cut : Inside su r
    inside_cut = record {
      fits = omega (arith, ap length cut.cells, cut.top, v.roots.inside.fits, v.roots.top, s.top);
      low = λ k l. omega (arith, root_same k, v.roots.inside.low k (omega (arith, cut.top, v.roots.top, s.top)));
    }

    cells_cut : length r.cells.now ≡ length q.cells.now
    cells_cut = ap length cut.cells ∙ v.roots.long ∙ s.long

    terms_cut : (k : ℕ) → k < q.top → held su r k ≡ held st q k
    terms_cut k l =
        ap (term_in su) (root_same k) ∙ v.roots.terms k (omega (arith, s.top))
        ∙ ap (term_in st) (s.rest k (λ e. omega arith))

    pub collected_none : (fr gr : Frames) → Forgotten fr gr → (x : NoRoom) → Collected (work st q fr) p (work su r gr) (Err x)
    collected_none fr gr forgotten x =
        let h : ℕ → Term = λ k. held st q1 k in
        let e : listed h q1.top ≡ term_in st p.0 ∷ listed (λ k. held st q k) q.top =
        ap (listed h) (s.top ∙ add-one q.top)
        ∙ ap₂ ◌∷◌ (ap (term_in st) s.is)
        (listed_same h (λ k. held st q k) q.top (λ k l. ap (term_in st) (s.rest k (λ z. omega arith)))) in
        record {
          sound = v.sound;
          room = v.room;
          carried = v.carried;
          cells = cells_cut;
          top = cut.top;
          inside = inside_cut;
          terms = terms_cut;
          forgotten = forgotten;
          result = subst (λ (ts : List Term). st.room < different ts + 33) e v.space.1;
        }

pub framed_few : (ws : List ℕ) (d end low : ℕ) → Framed ws d end low → end ≤ low + 3 * d
framed_few ws zero end low w = omega arith
framed_few ws (suc d) end low w = omega (arith, framed_few ws d (end - (frame_at ws d).others) low w.3, w.0, w.2)

module _ (rs : List Eq) (low : ℕ) (st : Store) (q : Roots) (fr : Frames) (c : Focus) (run1 : Running rs low (work st q fr) c) where
  abbrev t : Term
  t = term_in st (focus_place c)

  abbrev u : Term
  u = whole (state_in (work st q fr) c)

  abbrev g : ℕ → Term
  g k = held st q k

  whole_is : (e : Focus) → whole (state_in (work st q fr) e) ≡ plug (frames_in (work st q fr)) (term_in st (focus_place e))
  whole_is (Eval p) = refl
  whole_is (Back p) = refl

  deep : fr.depth < different (u ∷ [])
  deep = omega (arith, depth (state_in (work st q fr) c), frames_length g fr.words.now fr.depth q.top)

  -- nothing is changed
  kept_same : KeptBelow low (work st q fr) (work st q fr)
  kept_same = record { room = refl; cells = refl; words = refl; terms = λ k l. refl }

  halted_same : Wanting st.room (length fr.words.now) (length q.cells.now) low g u → Halted rs low (work st q fr) u (work st q fr)
  halted_same w = record {
    sound = sound_in st;
    honest = run1.honest;
    inside = run1.inside;
    frames = run1.frames;
    enough = framed_low fr.words.now fr.depth q.top low run1.framed;
    kept = kept_same;
    wanting = w;
  }

  pub no_words : length fr.words.now < 4 * (fr.depth + 1) → Halted rs low (work st q fr) u (work st q fr)
  no_words l = halted_same (few_words (omega (arith, deep)))

  pub no_cells : length q.cells.now < 2 * (q.top + 4) → Halted rs low (work st q fr) u (work st q fr)
  no_cells l = halted_same (few_cells (omega (arith, deep, framed_few fr.words.now fr.depth q.top low run1.framed)))

  -- the terms kept are parts of the whole, or are below
  few_parts : different (t ∷ listed g q.top) ≤ different (u ∷ listed g low)
  few_parts = different_mono (t ∷ listed g q.top) (u ∷ listed g low) one
    where
      is_part : (v : Term) → Part v (plug (frames_in (work st q fr)) t) → Part v u
      is_part v h = subst (Part v) (sym (whole_is c)) h

      low_or_part : (v : Term) (k : ℕ) → k < q.top → Part v (g k) → Dec (k < low) → PartOf v (u ∷ listed g low)
      low_or_part v k l h (yes m) = of_later (part_of_listed g low k v m h)
      low_or_part v k l h (no m) = of_first (is_part v (part_trans h
          (root_part g fr.words.now fr.depth q.top low k t run1.framed (omega arith) l)))

      one : (v : Term) → PartOf v (t ∷ listed g q.top) → PartOf v (u ∷ listed g low)
      one v (of_first h) = of_first (is_part v (part_plug (frames_in (work st q fr)) h))
      one v (of_later h) =
          let (k, l, m) = part_in_listed g q.top v h in
          low_or_part v k l m (dec_lt k low)

  -- a collection
  module _ (p : Place) (at : p.0 ≡ focus_place c) (su : Store) (r : Roots) (gr : Frames) where
    term_at : term_in st p.0 ≡ t
    term_at = ap (term_in st) at

    low_top : low ≤ q.top
    low_top = framed_low fr.words.now fr.depth q.top low run1.framed

    kept_by : {x : _} → Collected (work st q fr) p (work su r gr) x → KeptBelow low (work st q fr) (work su r gr)
    kept_by k = record {
      room = k.room;
      cells = k.cells;
      words = ap length k.forgotten.words;
      terms = λ i l. k.terms i (omega (arith, low_top));
    }

    frames_fit : {x : _} → Collected (work st q fr) p (work su r gr) x → FramesFit gr
    frames_fit k = record {
      words = omega (arith, ap length k.forgotten.words, k.forgotten.depth, run1.frames.words);
      fresh = omega (arith, k.forgotten.fresh, k.forgotten.depth);
    }

    halted : {e : NoRoom} → Collected (work st q fr) p (work su r gr) (Err e) → Halted rs low (work st q fr) u (work su r gr)
    halted k = record {
      sound = k.sound;
      honest = honest_carried rs st su run1.honest k.carried;
      inside = k.inside;
      frames = frames_fit k;
      enough = omega (arith, low_top, k.top);
      kept = kept_by k;
      wanting = few_slots (
          let z : different (term_in st p.0 ∷ listed g q.top) ≡ different (t ∷ listed g q.top) =
          ap (λ (v : Term). different (v ∷ listed g q.top)) term_at in
          omega (arith, k.result, z, few_parts));
    }

    pub no_slots : {e : NoRoom} → Collected (work st q fr) p (work su r gr) (Err e) → (x : Result Focus NoRoom) → IsErr x →
        SpaceOrHalted rs low (work st q fr) c (work su r gr) x
    no_slots k (Ok _) e = absurd (false≢true e)
    no_slots k (Err _) e = halted k

    frames_are : {x : _} → Collected (work st q fr) p (work su r gr) x → frames_in (work su r gr) ≡ frames_in (work st q fr)
    frames_are k =
        ap₂ (λ (d e : ℕ). frames_of (λ i. held su r i) gr.words.now d e) k.forgotten.depth k.top
        ∙ frames_same g (λ i. held su r i) fr.words.now gr.words.now fr.depth q.top low run1.framed k.terms
        (λ e l. ap (λ (ws : List ℕ). frame_at ws e) k.forgotten.words)

    place_at : (e : Focus) (o : Place) → focus_place (focus_at e o) ≡ o.0
    place_at (Eval p) o = refl
    place_at (Back p) o = refl

    focus_same : (e : Focus) (o : Place) → term_in su o.0 ≡ term_in st (focus_place e) → focus_of su (focus_at e o) ≡ focus_of st e
    focus_same (Eval p) o z = ap eval z
    focus_same (Back p) o z = ap back z

    pub spaced : (o : Place) → Collected (work st q fr) p (work su r gr) (Ok o) → 4 * (fr.depth + 1) ≤ length fr.words.now →
        2 * (q.top + 4) ≤ length q.cells.now → WithSpace rs low (work st q fr) c (work su r gr) (focus_at c o)
    spaced o k words cells =
        let z : term_in su o.0 ≡ t = k.result.1 ∙ term_at in
        record {
          running = record {
            honest = honest_carried rs st su run1.honest k.carried;
            inside = k.inside;
            frames = frames_fit k;
            framed = subst (λ (d : ℕ). Framed gr.words.now d r.top low) (sym k.forgotten.depth)
                (subst (λ (e : ℕ). Framed gr.words.now fr.depth e low) (sym k.top)
                (framed_same fr.words.now gr.words.now fr.depth q.top low
                (λ e l. ap (λ (ws : List ℕ). frame_at ws e) k.forgotten.words) run1.framed));
            focus = omega (arith, place_at c o, k.result.0);
            asked = subst (λ (ks : List ModelFrame). Asks (AskedFor rs su gr) ks (term_in su (focus_place (focus_at c o))))
                (sym (frames_are k))
                (subst (Asks (AskedFor rs su gr) (frames_in (work st q fr))) (sym (ap (term_in su) (place_at c o) ∙ z))
                (asks_map (AskedFor rs st fr) (AskedFor rs su gr) (frames_in (work st q fr)) t
                (λ d v l a m o e. absurd (omega (arith, m, k.forgotten.fresh, frames_length g fr.words.now fr.depth q.top, l)))
                run1.asked));
          };
          same = ap₂ state (frames_are k) (focus_same c o z);
          space = record {
            slots = k.result.2;
            roots = omega (arith, k.cells, k.top);
            frames = omega (arith, k.forgotten.depth, ap length k.forgotten.words);
          };
          kept = kept_by k;
        }
