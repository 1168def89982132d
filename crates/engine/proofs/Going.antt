-- Turns: a change of the store under the frames, and one of the focus.
use Rattle.std.proofs.Common.{◌≡◌, ℕ, ◌<◌, ◌≤◌, List, [], sym, refl, ap, ◌∙◌, subst, ap₂, arith}
use Rattle.rewriting.specs.Terms.{Term, sign, Terms}
use Rattle.rewriting.specs.Rules.{Eq, Steps, stay}
use Rattle.rewriting.specs.Machine.{eval, back, apply, state, known, at_once, known_sign, by_rule, LowestMove, LowestMoves, no_move}
use Rattle.rewriting.specs.Machine.{Frame as ModelFrame}
use Rattle.rewriting.proofs.Stepping.{trans}
use Rattle.rewriting.proofs.Moving.{move_steps}
use Rattle.store.specs.declared.types.Store.{Store}
use Rattle.store.specs.declared.types.Roots.{Roots}
use Rattle.store.specs.declared.types.Place.{Place}
use Rattle.store.specs.Stores.{term_in, held, Inside}
use Rattle.store.specs.Stacks.{root_in}
use Rattle.engine.specs.declared.types.Frame.{Frame}
use Rattle.engine.specs.declared.types.Frames.{Frames}
use Rattle.engine.specs.declared.types.Focus.{Focus}
use Rattle.engine.specs.declared.types.Focus.TheVariants.{Eval, Back}
use Rattle.engine.specs.Frames.{frame_at}
use Rattle.engine.specs.Running.{focus_place, focus_of, frames_in, state_in, Asks, AskedFor, Running, Holding}
use Rattle.engine.specs.Turning.{ComesTo, TurnedTo}
use Rattle.engine.proofs.Honesty.{holding_on}
use Rattle.engine.proofs.Contexts.{work, frames_same, framed_low, asks_map, asks_steps}

module _ (rs : List Eq) where
  -- what is asked for
  pub asked_on : (st : Store) (fr : Frames) (d : ℕ) (v w : Term) → Steps rs v w → AskedFor rs st fr d v → AskedFor rs st fr d w
  asked_on st fr d v w h a f p e = let x = a f p e in (x.0, trans x.1 h)

  pub asked_less : (st : Store) (fr gr : Frames) (d : ℕ) (u : Term) → (gr.fresh ≤ d → fr.fresh ≤ d) →
      frame_at gr.words.now d ≡ frame_at fr.words.now d → AskedFor rs st fr d u → AskedFor rs st gr d u
  asked_less st fr gr d u l e a f p z =
      a (l f) p (sym (ap (λ (k : Frame). k.asked) e) ∙ z)

  module _ (st su : Store) (h : Holding rs st su) where
    pub asked_holding : (fr : Frames) (d : ℕ) (u : Term) → AskedFor rs st fr d u → AskedFor rs su fr d u
    asked_holding fr d u a f p e =
        let x = a f p e in
        (omega (arith, x.0, h.longer), subst (λ (t : Term). Steps rs t u) (sym (h.terms p.0 x.0)) x.1)

    module _ (low : ℕ) (q : Roots) (fr : Frames) (c : Focus) (run1 : Running rs low (work st q fr) c) where
      pub frames_holding : frames_in (work su q fr) ≡ frames_in (work st q fr)
      frames_holding =
          frames_same (λ k. held st q k) (λ k. held su q k) fr.words.now fr.words.now fr.depth q.top low run1.framed
          (λ k l. h.terms (root_in q k) (run1.inside.low k l)) (λ e l. refl)

      pub inside_to : Inside su q
      inside_to = record {
        fits = run1.inside.fits;
        low = λ k m. let x = run1.inside.low k m in omega (arith, h.longer);
      }

      -- another term, to which steps lead
      pub asked_to : (u : Term) → Steps rs (term_in st (focus_place c)) u → Asks (AskedFor rs su fr) (frames_in (work su q fr)) u
      asked_to u s =
          subst (λ (ks : List ModelFrame). Asks (AskedFor rs su fr) ks u) (sym frames_holding)
          (asks_steps rs (AskedFor rs su fr) (frames_in (work st q fr)) (term_in st (focus_place c)) u
          (λ d v w k a. asked_on su fr d v w k a) s
          (asks_map (AskedFor rs st fr) (AskedFor rs su fr) (frames_in (work st q fr)) (term_in st (focus_place c))
          (λ d u m a. asked_holding fr d u a) run1.asked))

      pub running_to : (e : Focus) → focus_place e < su.count → Steps rs (term_in st (focus_place c)) (term_in su (focus_place e)) →
          Running rs low (work su q fr) e
      running_to e l s = record {
        honest = h.honest;
        inside = inside_to;
        frames = run1.frames;
        framed = run1.framed;
        focus = l;
        asked = asked_to (term_in su (focus_place e)) s;
      }

  -- what a term comes to is a move
  pub comes_inside : (t : Term) (su : Store) (e : Focus) → ComesTo rs t su e → focus_place e < su.count
  comes_inside t su (Eval q) b = b.inside
  comes_inside t su (Back q) b = b.inside

  pub comes_move : (ks : List ModelFrame) (t : Term) (su : Store) (e : Focus) → ComesTo rs t su e →
      LowestMove rs (state ks (eval t)) (state ks (focus_of su e))
  comes_move ks t su (Eval q) b =
      subst (λ (u : Term). LowestMove rs (state ks (eval t)) (state ks (eval u))) (sym b.right)
      (record { move = at_once b.index b.rule b.filling b.has b.left; lowest = b.first })
  comes_move ks t su (Back q) b = record { move = known b.steps b.done; lowest = tt }

  pub comes_apply : (ks : List ModelFrame) (f : ℕ) (ts : Terms) (su : Store) (e : Focus) → ComesTo rs (sign f ts) su e →
      LowestMove rs (state ks (apply f ts)) (state ks (focus_of su e))
  comes_apply ks f ts su (Eval q) b =
      subst (λ (u : Term). LowestMove rs (state ks (apply f ts)) (state ks (eval u))) (sym b.right)
      (record { move = by_rule b.index b.rule b.filling b.has b.left; lowest = b.first })
  comes_apply ks f ts su (Back q) b = record { move = known_sign b.steps b.done; lowest = tt }

  pub comes_steps : (t : Term) (su : Store) (e : Focus) → ComesTo rs t su e → Steps rs t (term_in su (focus_place e))
  comes_steps t su (Eval q) b = move_steps (comes_move [] t su (Eval q) b).move
  comes_steps t su (Back q) b = b.steps

  -- a turn that changes the focus only
  pub turned_at : (low : ℕ) (st su : Store) (q : Roots) (fr : Frames) (p : Place) (e : Focus) → Running rs low (work st q fr) (Eval p) →
      Holding rs st su → ComesTo rs (term_in st p.0) su e → low ≤ q.top → TurnedTo rs low (work st q fr) (Eval p) (work su q fr) e
  turned_at low st su q fr p e r h b l =
      let t = term_in st p.0 in
      let ks = frames_in (work st q fr) in
      record {
        holding = h;
        running = running_to st su h low q fr (Eval p) r e (comes_inside t su e b) (comes_steps t su e b);
        goes = (
          state_in (work su q fr) e,
          subst (λ (x : List ModelFrame). LowestMove rs (state ks (eval t)) (state x (focus_of su e)))
              (sym (frames_holding st su h low q fr (Eval p) r)) (comes_move ks t su e b),
          no_move,
        );
        kept = record {
          room = h.room;
          cells = refl;
          words = refl;
          terms = λ k m. h.terms (root_in q k) (r.inside.low k (omega arith));
        };
      }

  -- with a store that holds the same terms
  focus_holding : (su sv : Store) → Holding rs su sv → (e : Focus) → focus_place e < su.count → focus_of sv e ≡ focus_of su e
  focus_holding su sv h (Eval p) l = ap eval (h.terms p.0 l)
  focus_holding su sv h (Back p) l = ap back (h.terms p.0 l)

  pub turned_holding : (low : ℕ) (st : Store) (q : Roots) (fr : Frames) (c : Focus) (su : Store) (r : Roots) (gr : Frames) (e : Focus)
      (sv : Store) → TurnedTo rs low (work st q fr) c (work su r gr) e → Holding rs su sv → TurnedTo rs low (work st q fr) c (work sv
      r gr) e
  turned_holding low st q fr c su r gr e sv t h =
      let x = t.running in
      let i = focus_place e in
      record {
        holding = holding_on rs st su sv t.holding h;
        running = running_to su sv h low r gr e x e (omega (arith, h.longer, x.focus))
            (subst (Steps rs (term_in su i)) (sym (h.terms i x.focus)) stay);
        goes = (
          t.goes.0,
          t.goes.1,
          subst (LowestMoves rs t.goes.0) (ap₂ state (sym (frames_holding su sv h low r gr e x)) (sym (focus_holding su sv h e x.focus)))
              t.goes.2,
        );
        kept = record {
          room = h.room ∙ t.kept.room;
          cells = t.kept.cells;
          words = t.kept.words;
          terms = λ k l. h.terms (root_in r k) (x.inside.low k
              (omega (arith, framed_low gr.words.now gr.depth r.top low x.framed))) ∙ t.kept.terms k l;
        };
      }
