-- A rule whose right side begins with a sign that is not made: its parts are, and the first of them is next.
use Rattle.std.proofs.Common.{◌≡◌, ℕ, suc, [], ◌+◌, ◌-◌, ◌<◌, ◌≤◌, List, length, get_or, sym, refl, ap, ◌∙◌, subst, Some, arith}
use Rattle.rewriting.specs.Terms.{Term, letter, sign, Terms, count, put, puts}
use Rattle.rewriting.specs.Rules.{Eq}
use Rattle.rewriting.specs.Machine.{eval, state, at_once, LowestMove, no_move, move_on}
use Rattle.rewriting.specs.Machine.{Frame as ModelFrame}
use Rattle.rewriting.proofs.Moving.{move_steps}
use Rattle.books.specs.Reading.{SymbolAt}
use Rattle.books.specs.declared.words.Symbol.TheVariants.{Sign as SignSymbol}
use Rattle.books.proofs.Elements.{nth_below, nth_is}
use Rattle.books.proofs.Bookish.{is_rule}
use Rattle.books.specs.declared.row.Book.{Book}
use Rattle.books.specs.Books.{told, rule_in, sound_book_in}
use Rattle.store.specs.declared.types.Store.{Store}
use Rattle.store.specs.declared.types.Roots.{Roots}
use Rattle.store.specs.declared.types.Place.{Place}
use Rattle.store.specs.Slots.{parts_by}
use Rattle.store.specs.Roots.{HasRoots}
use Rattle.store.specs.Stacks.{root_in}
use Rattle.store.specs.Stores.{term_in, Inside}
use Rattle.store.specs.Transfers.{RowOf, inner}
use Rattle.engine.specs.declared.types.Bindings.{Bindings}
use Rattle.engine.specs.declared.types.Frames.{Frames}
use Rattle.engine.specs.declared.types.Focus.TheVariants.{Eval}
use Rattle.engine.specs.Frames.{FramePushed}
use Rattle.engine.specs.Matching.{put_in}
use Rattle.engine.specs.Building.{RowPartsBuilt}
use Rattle.engine.specs.Running.{frames_in, state_in, Running, Holding, Asks, AskedFor}
use Rattle.engine.specs.Turning.{TurnedTo, OthersPushed, BegunAt}
use Rattle.engine.specs.Rewriting.{Opening}
use Rattle.engine.specs.declared.types.Focus.{Focus}
use Rattle.engine.specs.declared.work.Work.{Work}
use Rattle.engine.proofs.Pendings.{zero_place}
use Rattle.engine.proofs.Honesty.{holding_grown}
use Rattle.books.specs.Layouts.{FewParts}
use Rattle.books.proofs.Building.{book_parts}
use Rattle.books.proofs.Heads.{head_of}
use Rattle.books.specs.Rows.{row}
use Rattle.engine.specs.Building.{Fillable}
use Rattle.engine.specs.Rewriting.{LowestRule, RuleFound}
use Rattle.engine.specs.Turning.{Ready}
use Rattle.engine.proofs.Trying.{right_bound, right_fillable}
use Rattle.engine.proofs.Turned.{eval_rewritable}
use Rattle.engine.proofs.Contexts.{work, framed_low}
use Rattle.engine.proofs.Entering.{runs_in, moves_in, kept_in}
use Rattle.engine.proofs.Going.{frames_holding, inside_to, asked_to}
use Rattle.engine.proofs.RunningOn.{kept_on}

-- the signature of a book, and the right side of a rule that was found, as they are wanted to build from
pub few_of : (k : Book) (ps : List ℕ) → ps ≡ (told k).parts → FewParts ps
few_of k ps e = book_parts k.words.now (told k) k.reads ps (e ∙ sym (head_of k.words.now (told k) k.reads).parts)

module _ (k : Book) (low : ℕ) (st : Store) (q : Roots) (fr : Frames) (p : Place) (ready : Ready k low (work st q fr) (Eval p)) (i : ℕ)
    (b : Bindings) (found : RuleFound k st p b (Some i)) where
  pub filled : (ps ws : List ℕ) → ps ≡ (told k).parts → ws ≡ row (rule_in k i).right → Fillable ps ws b (rule_in k i).right
  filled ps ws e w =
      right_fillable k i found.low ps ws b e w (right_bound k st p (eval_rewritable k low st q fr p ready) i found.low b found.fits)

-- a term whose row begins with the sign g
pub record TopSign (ps : List ℕ) (t : Term) (g : ℕ) : Type 0 where
  pub parts : Terms
  pub is : t ≡ sign g parts
  pub within : g < length ps
  pub arity : get_or ps g 0 ≡ count parts

pub top_sign : (ps ws : List ℕ) (t : Term) → RowOf ps ws t → (g : ℕ) → SymbolAt ws 0 (Some (SignSymbol g)) → TopSign ps t g
top_sign ps ws (letter x) w g s = absurd (omega (arith, s.1, ap (λ (vs : List ℕ). get_or vs 0 0) w.written))
top_sign ps ws (sign f ts) w g s =
    let same : f ≡ g = ap (λ (vs : List ℕ). get_or vs 1 0) w.written ∙ s.2 in
    subst (TopSign ps (sign f ts)) same
    (record { parts = ts; is = refl; within = nth_below ps f (count ts) w.fits.0; arity = nth_is ps f (count ts) 0 w.fits.0 })

module _ (rs : List Eq) (low : ℕ) (st su : Store) (q : Roots) (fr : Frames) (p : Place) (run1 : Running rs low (work st q fr) (Eval p))
    (h : Holding rs st su) (u : Term)
    (step : (ks : List ModelFrame) → LowestMove rs (state ks (eval (term_in st p.0))) (state ks (eval u)))
    (ps : ℕ → ℕ) (f n : ℕ) (first : Place) (r : Roots) (gr : Frames) (few : n ≤ 3)
    (is : u ≡ sign f (parts_by (λ j. term_in su j) ps 0 (suc n))) (at : first.0 ≡ ps 0) (there : (k : ℕ) → k ≤ n → ps k < su.count)
    (space : HasRoots q.cells.now (q.top + 3)) (o : OthersPushed ps q n r) (k : FramePushed fr f n first gr) where
  inside1 : Inside su q
  inside1 = inside_to rs st su h low q fr (Eval p) run1

  asked1 : Asks (AskedFor rs su fr) (frames_in (work su q fr)) u
  asked1 = asked_to rs st su h low q fr (Eval p) run1 u (move_steps (step []).move)

  pub opened : TurnedTo rs low (work st q fr) (Eval p) (work su r gr) (Eval first)
  opened = record {
    holding = h;
    running = runs_in rs low su q fr u ps f n first r gr h.honest inside1 run1.framed asked1 few is at there space o k
        run1.frames.fresh;
    goes = (
      state (frames_in (work st q fr)) (eval u),
      step (frames_in (work st q fr)),
      move_on (subst (λ (ls : List ModelFrame). LowestMove rs (state ls (eval u)) (state_in (work su r gr) (Eval first)))
          (frames_holding rs st su h low q fr (Eval p) run1)
          (moves_in rs low su q fr u ps f n first r gr h.honest inside1 run1.framed asked1 few is at there space o k)) no_move,
    );
    kept = kept_on low (work st q fr) (work su q fr) (work su r gr)
        (record {
          room = h.room;
          cells = refl;
          words = refl;
          terms = λ i l. h.terms (root_in q i)
              (run1.inside.low i (omega (arith, framed_low fr.words.now fr.depth q.top low run1.framed)));
        })
        (kept_in rs low su q fr u ps f n first r gr h.honest inside1 run1.framed asked1 few is at there space o k);
  }

-- what the words of a right side say that begin with a sign of n parts
module _ (ps ws : List ℕ) (t : Term) (w : RowOf ps ws t) (g n : ℕ) (o : Opening ps ws (Some (g, n))) where
  top : TopSign ps t g
  top = top_sign ps ws t w g o.0

  pub opening_arity : count (inner t) ≡ n
  opening_arity = ap (λ (u : Term). count (inner u)) top.is ∙ sym top.arity ∙ sym o.1

  pub opening_few : FewParts ps → n ≤ 4
  opening_few few = omega (arith, o.1, few g top.within)

  pub opening_is : (s : ℕ → Term) → put s t ≡ sign g (puts s (inner t))
  opening_is s = ap (put s) top.is ∙ ap (λ (us : Terms). sign g (puts s us)) (sym (ap inner top.is))

-- rule i of a book is used, and its right side begins with the sign g of n parts
module _ (k : Book) (low : ℕ) (st : Store) (q : Roots) (fr : Frames) (p : Place) (run1 : Running (told k).rules low (work st q fr) (Eval p))
    (i : ℕ) (b : Bindings) (found : LowestRule k st p b i) (ws : List ℕ) (g n : ℕ)
    (w : RowOf (told k).parts ws (rule_in k i).right) (op : Opening (told k).parts ws (Some (g, n))) (four : n ≤ 4) (su : Store)
    (places : List Place) (made : RowPartsBuilt st b (rule_in k i).right n su places) (space : HasRoots q.cells.now (q.top + 3)) (v : Work)
    (c : Focus) (begun : BegunAt (work su q fr) g (n - 1) places v c) where
  abbrev rs : List Eq
  rs = (told k).rules

  abbrev s : ℕ → Term
  s = put_in st b

  abbrev at_place : ℕ → ℕ
  at_place j = (get_or places j zero_place).0

  one_more : n ≡ suc (n - 1)
  one_more = omega (arith, op.2)

  right_is : put s (rule_in k i).right ≡ sign g (parts_by (λ j. term_in su j) at_place 0 (suc (n - 1)))
  right_is =
      opening_is (told k).parts ws (rule_in k i).right w g n op s ∙ ap (sign g) (sym made.terms)
      ∙ ap (λ (l : ℕ). sign g (parts_by (λ j. term_in su j) at_place 0 l)) one_more

  used : (ks : List ModelFrame) → LowestMove rs (state ks (eval (term_in st p.0))) (state ks (eval (put s (rule_in k i).right)))
  used ks = record { move = at_once i (rule_in k i) s (is_rule k (sound_book_in k) i found.low) found.fits.is; lowest = found.first }

  turned : TurnedTo rs low (work st q fr) (Eval p) (work su v.roots v.frames) (Eval (get_or places 0 zero_place))
  turned =
      opened rs low st su q fr p run1 (holding_grown rs st su run1.honest made.sound made.grown) (put s (rule_in k i).right)
      used at_place g (n - 1) (get_or places 0 zero_place) v.roots v.frames (omega arith) right_is refl
      (λ j l. made.inside j (omega (arith, op.2))) space begun.roots begun.frames

  pub by_opening : TurnedTo rs low (work st q fr) (Eval p) v c
  by_opening =
      subst (TurnedTo rs low (work st q fr) (Eval p) v) (sym begun.focus)
      (subst (λ (x : Store). TurnedTo rs low (work st q fr) (Eval p) (work x v.roots v.frames) (Eval (get_or places 0 zero_place)))
      (sym begun.store) turned)
