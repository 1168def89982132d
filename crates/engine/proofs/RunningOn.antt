-- The machine from its start to its end.
use Rattle.std.proofs.Common.{◌≡◌, ℕ, ◌+◌, ◌-◌, ◌<◌, List, [], ◌∷◌, length, Ok, Err, sym, refl, ap, ◌∙◌, subst, ap₂, arith}
use native.Mathlib.Decide.{ℕ_discrete}
use Rattle.rewriting.specs.Terms.{Term}
use Rattle.rewriting.specs.Rules.{Eq, Done}
use Rattle.rewriting.specs.Order.{rank, AllDown}
use Rattle.rewriting.specs.Different.{different, listed}
use Rattle.rewriting.specs.Machine.{State, state, eval, back, whole, start, finished, LowestMoves, no_move, move_on, Valid}
use Rattle.rewriting.specs.Machine.{Frame as ModelFrame}
use Rattle.rewriting.proofs.Moving.{lowest_are_moves, lowest_moves_on, moves_steps, moves_valid, move_fits, start_valid}
use Rattle.rewriting.proofs.Costing.{cost, cost_falls, moves_fall}
use Rattle.rewriting.proofs.Different.{listed_same}
use Rattle.store.specs.declared.types.Store.{Store}
use Rattle.store.specs.declared.types.Roots.{Roots}
use Rattle.store.specs.declared.types.Place.{Place}
use Rattle.store.proofs.Sounds.{sound_in}
use Rattle.store.specs.Roots.{root_at}
use Rattle.store.specs.Stacks.{root_in, StackedOn, CutTo}
use Rattle.store.specs.Stores.{term_in, held}
use Rattle.books.specs.declared.row.Book.{Book}
use Rattle.books.specs.Books.{told}
use Rattle.engine.specs.declared.types.Frames.{Frames}
use Rattle.engine.specs.declared.types.Focus.{Focus}
use Rattle.engine.specs.declared.types.Focus.TheVariants.{Eval, Back}
use Rattle.engine.specs.Frames.{Emptied}
use Rattle.engine.specs.Running.{Honest, Framed, frames_of, frames_in, state_in, Asks, AskedFor}
use Rattle.engine.specs.Turning.{Goes, Ready, KeptBelow, TurnedTo}
use Rattle.engine.specs.Spacing.{Wanting, few_slots, few_words, few_cells, Halted, WithSpace, Went, Ended}
use Rattle.engine.specs.declared.types.NoRoom.{NoRoom}
use Rattle.engine.specs.declared.work.Work.{Work}
use Rattle.engine.specs.Normal.{Startable, Finishes, Normalized}
use Rattle.engine.proofs.Contexts.{work}

pub kept_on : (low : ℕ) (a b c : Work) → KeptBelow low a b → KeptBelow low b c → KeptBelow low a c
kept_on low a b c x y = record {
  room = y.room ∙ x.room;
  cells = y.cells ∙ x.cells;
  words = y.words ∙ x.words;
  terms = λ k l. y.terms k l ∙ x.terms k l;
}

wanting_kept : (low : ℕ) (a b : Work) (u : Term) → KeptBelow low a b →
    Wanting b.store.room (length b.frames.words.now) (length b.roots.cells.now) low (λ k. held b.store b.roots k) u →
    Wanting a.store.room (length a.frames.words.now) (length a.roots.cells.now) low (λ k. held a.store a.roots k) u
wanting_kept low a b u k (few_slots l) =
    few_slots (subst (λ (ts : List Term). a.store.room < different (u ∷ ts) + 33)
    (listed_same (λ i. held b.store b.roots i) (λ i. held a.store a.roots i) low k.terms)
    (subst (λ (n : ℕ). n < different (u ∷ listed (λ i. held b.store b.roots i) low) + 33) k.room l))
wanting_kept low a b u k (few_words l) = few_words (omega (arith, k.words, l))
wanting_kept low a b u k (few_cells l) = few_cells (omega (arith, k.cells, l))

module _ (b : Book) (low : ℕ) where
  abbrev rs : List Eq
  rs = (told b).rules

  ready_on : (w : Work) (c : Focus) (v : Work) (e : Focus) → Ready b low w c → WithSpace rs low w c v e → Ready b low v e
  ready_on w c v e ready s = record {
    down = ready.down;
    running = s.running;
    valid = subst (Valid (told b)) (sym s.same) ready.valid;
  }

  -- a turn after space was made
  pub went : (w : Work) (c : Focus) (v : Work) (e : Focus) (u : Work) (x : Focus) → Ready b low w c → WithSpace rs low w c v e →
      (Ready b low v e → TurnedTo rs low v e u x) → Went b low w c u x
  went w c v e u x ready s turn =
      let now1 = ready_on w c v e ready s in
      let t = turn now1 in
      record {
        ready = record {
          down = ready.down;
          running = t.running;
          valid = moves_valid (told b) b.reads.fine ready.down (lowest_are_moves (move_on t.goes.1 t.goes.2)) now1.valid;
        };
        goes = subst (λ (y : State). Goes rs y (state_in u x)) s.same t.goes;
        kept = kept_on low w v u s.kept t.kept;
      }

  -- no frame is left
  pub ended : (w : Work) (c : Focus) (v : Work) (p : Place) → Ready b low w c → WithSpace rs low w c v (Back p) →
      v.frames.depth ≡ 0 → Ended b low w c v p
  ended w c v p ready s d = record { ready = ready_on w c v (Back p) ready s; same = s.same; depth = d; kept = s.kept }

  -- so far, from a first state
  pub record Underway (w : Work) (x : State) (v : Work) (e : Focus) : Type 0 where
    pub ready : Ready b low v e
    pub moves : LowestMoves rs x (state_in v e)
    pub kept : KeptBelow low w v

  pub under_way : (w : Work) (c : Focus) → Ready b low w c → Underway w (state_in w c) w c
  under_way w c ready = record {
    ready = ready;
    moves = no_move;
    kept = record { room = refl; cells = refl; words = refl; terms = λ k l. refl };
  }

  module _ (w : Work) (from1 : State) (v : Work) (e : Focus) (u : Underway w from1 v e) (z : Work) where
    pub further : (x : Focus) → Went b low v e z x → Underway w from1 z x
    further x s = record {
      ready = s.ready;
      moves = lowest_moves_on u.moves (move_on s.goes.1 s.goes.2);
      kept = kept_on low w v z u.kept s.kept;
    }

    pub falls : (x : Focus) → Went b low v e z x → cost (told b) (state_in z x) < cost (told b) (state_in v e)
    falls x s =
        let fine = b.reads.fine in
        let down = u.ready.down in
        let y = s.goes.0 in
        omega (
          arith,
          cost_falls (told b) fine down (state_in v e) y u.ready.valid.fits s.goes.1.move,
          moves_fall (told b) fine down (lowest_are_moves s.goes.2) (move_fits (told b) fine down s.goes.1.move u.ready.valid.fits),
        )

    pub last_state : (p : Place) → Ended b low v e z p →
        LowestMoves rs from1 (finished (term_in z.store p.0)) × Done rs (term_in z.store p.0) × (z.roots.top ≡ low)
    last_state p d =
        let tp = term_in z.store p.0 in
        let none : frames_in z ≡ [] =
        ap (λ (n : ℕ). frames_of (λ k. held z.store z.roots k) z.frames.words.now n z.roots.top) d.depth in
        let is : state_in v e ≡ finished tp = sym d.same ∙ ap (λ (ks : List ModelFrame). state ks (back tp)) none in (
          subst (LowestMoves rs from1) is u.moves,
          d.ready.valid.focus_done,
          subst (λ (n : ℕ). Framed z.frames.words.now n z.roots.top low) d.depth d.ready.running.framed,
        )

-- from a start to an end
module _ (b : Book) (w0 : Work) (down : AllDown (rank (told b).ranks) (told b).rules) (honest : Honest (told b).rules w0.store)
    (can : Startable b w0) (q : Roots) (cut : CutTo w0.roots (w0.roots.top - 1) q)
    (fr : Frames) (none : Emptied w0.frames fr) (p : Place) (at : p.0 ≡ root_in w0.roots (w0.roots.top - 1)) where
  abbrev st : Store
  st = w0.store

  abbrev q0 : Roots
  q0 = w0.roots

  abbrev fr0 : Frames
  fr0 = w0.frames

  abbrev low : ℕ
  low = q0.top - 1

  abbrev t : Term
  t = held st q0 (q0.top - 1)

  no_frames : frames_in (work st q fr) ≡ []
  no_frames = ap (λ (n : ℕ). frames_of (λ k. held st q k) fr.words.now n q.top) none.depth

  term_is : term_in st p.0 ≡ t
  term_is = ap (term_in st) at

  first_state : state_in (work st q fr) (Eval p) ≡ start t
  first_state = ap₂ (λ (ks : List ModelFrame) (u : Term). state ks (eval u)) no_frames term_is

  root_same : (k : ℕ) → root_in q k ≡ root_in q0 k
  root_same k = ap (λ (cs : List ℕ). root_at cs k) cut.cells

  pub first_ready : Ready b low (work st q fr) (Eval p)
  first_ready = record {
    down = down;
    running = record {
      honest = honest;
      inside = record {
        fits = omega (arith, ap length cut.cells, cut.top, can.inside.fits);
        low = λ k l. omega (arith, root_same k, can.inside.low k (omega (arith, cut.top)));
      };
      frames = record { words = omega (arith, none.depth); fresh = omega (arith, none.fresh, none.depth) };
      framed = subst (λ (n : ℕ). Framed fr.words.now n q.top low) (sym none.depth) cut.top;
      focus = omega (arith, at, can.inside.low (q0.top - 1) (omega (arith, can.some)));
      asked = subst (λ (ks : List ModelFrame). Asks (AskedFor (told b).rules st fr) ks (term_in st p.0)) (sym no_frames) tt;
    };
    valid = subst (Valid (told b)) (sym first_state) (start_valid (told b) t can.fits);
  }

  abbrev first : Work
  first = work st q fr

  abbrev x0 : State
  x0 = state_in first (Eval p)

  -- moves from the first state are moves from the start
  from_start : (y : State) → LowestMoves (told b).rules x0 y → LowestMoves (told b).rules (start t) y
  from_start y ms = subst (λ (x : State). LowestMoves (told b).rules x y) first_state ms

  module _ (v : Work) (e : Focus) (u0 : Underway b low first x0 v e) (z : Work) where
    kept_all : KeptBelow low v z → KeptBelow low first z
    kept_all k = kept_on low first v z u0.kept k

    pub normal : (x : Place) → Ended b low v e z x → (o : Roots) → StackedOn z.roots low x.0 o →
        Normalized b w0 (work z.store o z.frames) (Ok tt)
    normal x d o on =
        let (ms, done, top) = last_state b low first x0 v e u0 z x d in
        let k = kept_all d.kept in
        let is : held z.store o low ≡ term_in z.store x.0 = ap (term_in z.store) on.is in
        record {
          sound = sound_in z.store;
          inside = record {
            fits = omega (arith, on.long, on.top, k.cells, ap length cut.cells, can.inside.fits, can.some);
            low = λ j l. inside_low j (omega (arith, on.top)) (ℕ_discrete j low);
          };
          room = k.room;
          cells = on.long ∙ k.cells ∙ ap length cut.cells;
          words = k.words ∙ ap length none.words;
          frames = d.ready.running.frames;
          terms = λ j l. ap (term_in z.store) (on.rest j (λ y. omega arith)) ∙ k.terms j l ∙ ap (term_in st) (root_same j);
          result = (
            omega (arith, on.top, can.some),
            subst (Finishes (told b).rules t) (sym is)
                (let moves = from_start (finished (term_in z.store x.0)) ms in
                record { moves = moves; steps = moves_steps (lowest_are_moves moves); done = done }),
          );
        }
      where
        inside_low : (j : ℕ) → j < low + 1 → Dec (j ≡ low) → root_in o j < z.store.count
        inside_low j l (yes y) = omega (arith, ap (λ (i : ℕ). root_in o i) y, on.is, d.ready.running.focus)
        inside_low j l (no y) =
            let h = last_state b low first x0 v e u0 z x d in
            omega (arith, on.rest j y, d.ready.running.inside.low j (omega (arith, h.2)))

    pub stopped : Halted (told b).rules low v (whole (state_in v e)) z → (o : Roots) → CutTo z.roots low o → (x : NoRoom) →
        Normalized b w0 (work z.store o z.frames) (Err x)
    stopped d o c x =
        let k = kept_all d.kept in
        let same : (j : ℕ) → root_in o j ≡ root_in z.roots j = λ j. ap (λ (cs : List ℕ). root_at cs j) c.cells in
        let y = state_in v e in
        let u = whole y in
        let moves = from_start y u0.moves in
        let lack = wanting_kept low first v u u0.kept d.wanting in
        record {
          sound = d.sound;
          inside = record {
            fits = omega (arith, ap length c.cells, c.top, d.inside.fits, d.enough);
            low = λ j l. omega (arith, same j, d.inside.low j (omega (arith, c.top, d.enough)));
          };
          room = k.room;
          cells = ap length c.cells ∙ k.cells ∙ ap length cut.cells;
          words = k.words ∙ ap length none.words;
          frames = d.frames;
          terms = λ j l. ap (term_in z.store) (same j) ∙ k.terms j l ∙ ap (term_in st) (root_same j);
          result = (
            c.top,
            record {
              at_last = y;
              moves = moves;
              steps = moves_steps (lowest_are_moves moves);
              wanting =
                  subst (λ (cs : List ℕ). Wanting st.room (length fr0.words.now) (length cs) low (λ j. term_in st (root_at cs j)) u) cut.cells
                  (subst (λ (ws : List ℕ). Wanting st.room (length ws) (length q.cells.now) low (λ j. held st q j) u) none.words lack);
            },
          );
        }
