-- A turn that goes back from the last part of a sign to the sign.
use Rattle.std.proofs.Common.{◌≡◌, ℕ, suc, ◌+◌, ◌-◌, ◌<◌, List, ◌∷◌, length, get_or, sym, ap, ◌∙◌, subst, ap₂, arith}
use Rattle.rewriting.specs.Terms.{Term, sign, Terms, none1, Fits}
use Rattle.rewriting.specs.Rules.{Eq, Done}
use Rattle.rewriting.specs.Machine.{frame, back, apply, state, behind, Still, go_out, LowestMove, LowestMoves, no_move, move_on, Valid}
use Rattle.rewriting.specs.Machine.{Frame as ModelFrame}
use Rattle.rewriting.proofs.Framing.{plug_fits}
use Rattle.rewriting.proofs.Moving.{move_valid, sign_done}
use Rattle.store.specs.declared.types.Store.{Store}
use Rattle.store.specs.declared.types.Roots.{Roots}
use Rattle.store.specs.declared.types.Place.{Place}
use Rattle.store.specs.Stores.{term_in, held}
use Rattle.store.specs.Roots.{root_at}
use Rattle.store.specs.Stacks.{root_in, CutTo}
use Rattle.store.specs.Making.{SignShared}
use Rattle.books.specs.declared.row.Book.{Book}
use Rattle.books.specs.Books.{told}
use Rattle.engine.specs.declared.types.Frame.{Frame}
use Rattle.engine.specs.declared.types.Frames.{Frames}
use Rattle.engine.specs.declared.types.Focus.{Focus}
use Rattle.engine.specs.declared.types.Focus.TheVariants.{Back}
use Rattle.engine.specs.Frames.{frame_at, Popped}
use Rattle.engine.specs.Rewriting.{Rewritable}
use Rattle.engine.specs.Running.{run, frames_of, Framed, focus_place, focus_of, frames_in, state_in, Asks, AskedFor, Running, Holding}
use Rattle.engine.specs.Turning.{ComesTo, Applied, Ready, TurnedTo, PartsGathered}
use Rattle.engine.proofs.Pendings.{zero_place}
use Rattle.engine.proofs.Honesty.{holding_grown, holding_on}
use Rattle.engine.proofs.Contexts.{work, run_shift, run_by, run_behind, frames_same, framed_same, framed_low, frames_length, asks_map}
use Rattle.engine.proofs.Contexts.{asks_steps}
use Rattle.engine.proofs.Going.{asked_less, asked_on, asked_holding, comes_inside, comes_steps, comes_apply}
use Rattle.engine.proofs.Onward.{depth_more, framed_more}

module _ (b : Book) (low : ℕ) (st : Store) (q : Roots) (fr : Frames) (v : Place) (ready : Ready b low (work st q fr) (Back v))
    (pos : 0 < fr.depth) where
  abbrev rs : List Eq
  rs = (told b).rules

  abbrev d : ℕ
  d = fr.depth - 1

  abbrev x : Frame
  x = frame_at fr.words.now (fr.depth - 1)

  abbrev a : ℕ
  a = q.top - x.others

  abbrev g : ℕ → Term
  g j = held st q j

  abbrev ks : List ModelFrame
  ks = frames_of g fr.words.now d a

  abbrev bs : Terms
  bs = run g a x.done

  abbrev tv : Term
  tv = term_in st v.0

  top_framed : Framed fr.words.now (suc d) q.top low
  top_framed = framed_more rs low st q fr v ready.running pos

  module _ (full : x.done ≡ x.others) where
    frames_were : frames_in (work st q fr) ≡ frame x.sign bs none1 ∷ ks
    frames_were =
        let z : x.others - x.done ≡ 0 = omega arith in
        ap (λ (m : ℕ). frames_of g fr.words.now m q.top) (depth_more rs low st q fr v ready.running pos)
        ∙ ap (λ (n : ℕ). frame x.sign bs (run g (a + x.done) n) ∷ ks) z

    out : LowestMove rs (state_in (work st q fr) (Back v)) (state ks (apply x.sign (behind bs tv)))
    out =
        subst (λ (ls : List ModelFrame). LowestMove rs (state ls (back tv)) (state ks (apply x.sign (behind bs tv)))) (sym frames_were)
        (record { move = go_out; lowest = tt })

    valid : Valid (told b) (state ks (apply x.sign (behind bs tv)))
    valid = move_valid (told b) b.reads.fine ready.down out.move ready.valid

    module _ (ps : List Place) (su : Store) (p : Place) (parts : PartsGathered q a x.others v ps)
        (shared : SignShared st x.sign ps (x.others + 1) su p) where
      abbrev pp : ℕ → Term
      pp j = term_in st (get_or ps j zero_place).0

      sign_is : term_in su p.0 ≡ sign x.sign (behind bs tv)
      sign_is =
          let z : 0 + x.others ≡ x.others = omega arith in
          shared.term ∙ ap (sign x.sign)
          (sym (run_by (λ j. term_in st j) (λ j. (get_or ps j zero_place).0) 0 (x.others + 1))
          ∙ run_behind pp 0 x.others
          ∙ ap₂ behind
          (run_shift pp g 0 a x.others (λ j l. let y : 0 + j ≡ j = omega arith in ap pp y ∙ ap (term_in st) (parts.others j l))
          ∙ ap (run g a) (sym full))
          (ap pp z ∙ ap (λ (w : Place). term_in st w.0) parts.last))

      pub rewritable : Rewritable b su p
      rewritable = record {
        down = ready.down;
        inside = shared.inside;
        fits = subst (Fits (told b).parts) (sym sign_is)
            (plug_fits (told b).parts ks (sign x.sign (behind bs tv)) valid.fits).1;
      }

      pub done_if_still : Still rs (term_in su p.0) → Done rs (term_in su p.0)
      done_if_still h =
          subst (Done rs) (sym sign_is)
          (sign_done x.sign (behind bs tv) valid.focus_done (subst (Still rs) sign_is h))

      pub grown_holding : Holding rs st su
      grown_holding = holding_grown rs st su ready.running.honest shared.sound shared.grown

      module _ (sv : Store) (r : Roots) (gr : Frames) (e : Focus) (cut : CutTo q a r) (pop : Popped fr gr)
          (ap1 : Applied rs su p sv e) where
        hold : Holding rs st sv
        hold = holding_on rs st su sv grown_holding ap1.holding

        comes : ComesTo rs (sign x.sign (behind bs tv)) sv e
        comes = subst (λ (t : Term). ComesTo rs t sv e) sign_is ap1.result

        same : (j : ℕ) → j < q.top → held sv r j ≡ g j
        same j l =
            ap (λ (cs : List ℕ). term_in sv (root_at cs j)) cut.cells
            ∙ hold.terms (root_in q j) (ready.running.inside.low j l)

        depth_is : gr.depth ≡ d
        depth_is = omega (arith, pop.depth)

        frames_are : frames_in (work sv r gr) ≡ ks
        frames_are =
            ap₂ (λ (m n : ℕ). frames_of (λ j. held sv r j) gr.words.now m n) depth_is cut.top
            ∙ frames_same g (λ j. held sv r j) fr.words.now gr.words.now d a low top_framed.3
            (λ j l. same j (omega arith)) (λ m l. ap (λ (ws : List ℕ). frame_at ws m) pop.words)

        framed : Framed gr.words.now gr.depth r.top low
        framed =
            subst (λ (m : ℕ). Framed gr.words.now m r.top low) (sym depth_is)
            (subst (λ (n : ℕ). Framed gr.words.now d n low) (sym cut.top)
            (framed_same fr.words.now gr.words.now d a low (λ m l. ap (λ (ws : List ℕ). frame_at ws m) pop.words)
            top_framed.3))

        asked : Asks (AskedFor rs sv gr) ks (term_in sv (focus_place e))
        asked =
            let was : Asks (AskedFor rs st fr) (frame x.sign bs none1 ∷ ks) tv =
            subst (λ (ls : List ModelFrame). Asks (AskedFor rs st fr) ls tv) frames_were ready.running.asked in
            asks_steps rs (AskedFor rs sv gr) ks (sign x.sign (behind bs tv)) (term_in sv (focus_place e))
            (λ m t u h o. asked_on rs sv gr m t u h o) (comes_steps rs (sign x.sign (behind bs tv)) sv e comes)
            (asks_map (AskedFor rs st fr) (AskedFor rs sv gr) ks (sign x.sign (behind bs tv))
            (λ m u l o.
            let lower : m < d = omega (arith, frames_length g fr.words.now d a) in
            asked_less rs sv fr gr m u (λ n. pop.later m n (omega (arith, depth_is)))
            (ap (λ (ws : List ℕ). frame_at ws m) pop.words) (asked_holding rs st sv hold fr m u o)) was.1)

        running : Running rs low (work sv r gr) e
        running = record {
          honest = hold.honest;
          inside = record {
            fits = omega (arith, ready.running.inside.fits, ap length cut.cells, cut.top);
            low = λ j l.
                let z = ap (λ (cs : List ℕ). root_at cs j) cut.cells in
                omega (arith, z, hold.longer, ready.running.inside.low j (omega (arith, cut.top)));
          };
          frames = record { words = omega (arith, ready.running.frames.words, ap length pop.words, pop.depth); fresh = pop.fresh };
          framed = framed;
          focus = comes_inside rs (sign x.sign (behind bs tv)) sv e comes;
          asked = subst (λ (ls : List ModelFrame). Asks (AskedFor rs sv gr) ls (term_in sv (focus_place e))) (sym frames_are) asked;
        }

        pub gone_out : TurnedTo rs low (work st q fr) (Back v) (work sv r gr) e
        gone_out = record {
          holding = hold;
          running = running;
          goes = (
            state ks (apply x.sign (behind bs tv)),
            out,
            subst (λ (ls : List ModelFrame). LowestMoves rs (state ks (apply x.sign (behind bs tv))) (state ls (focus_of sv e)))
                (sym frames_are) (move_on (comes_apply rs ks x.sign (behind bs tv) sv e comes) no_move),
          );
          kept = record {
            room = hold.room;
            cells = ap length cut.cells;
            words = ap length pop.words;
            terms = λ j l. same j (omega (arith, framed_low fr.words.now d a low top_framed.3));
          };
        }
