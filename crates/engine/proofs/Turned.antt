-- What each turn needs and comes to, as its parts say it.
use Rattle.std.proofs.Common.{◌≡◌, ℕ, suc, ◌+◌, ◌-◌, ◌<◌, List, Some, sym, refl, ap, ◌∙◌, subst, arith}
use Rattle.rewriting.specs.Terms.{Term, letter, sign, none1}
use Rattle.rewriting.specs.Rules.{Eq, Steps, Done}
use Rattle.rewriting.specs.Order.{rank}
use Rattle.rewriting.specs.Machine.{Still}
use Rattle.rewriting.proofs.Framing.{plug_fits}
use Rattle.rewriting.proofs.Moving.{sign_done, letter_done}
use Rattle.store.specs.declared.types.Store.{Store}
use Rattle.store.specs.declared.types.Roots.{Roots}
use Rattle.store.specs.declared.types.Place.{Place}
use Rattle.store.specs.Stores.{term_in, parts_in, NoteSet, held}
use Rattle.store.specs.Stacks.{root_in, RootSet, CutTo}
use Rattle.store.specs.Making.{SignShared}
use Rattle.books.specs.declared.row.Book.{Book}
use Rattle.books.specs.Books.{told}
use Rattle.engine.specs.declared.types.Frame.{Frame}
use Rattle.engine.specs.declared.types.Frames.{Frames}
use Rattle.engine.specs.declared.types.Focus.{Focus}
use Rattle.engine.specs.declared.types.Focus.TheVariants.{Eval, Back}
use Rattle.engine.specs.Frames.{frame_at, GoneOn, Popped, AskedTop}
use Rattle.engine.specs.Rewriting.{Rewritable}
use Rattle.engine.specs.Running.{frames_of, frames_in, Asks, AskedFor, Holding}
use Rattle.engine.specs.Turning.{ComesTo, Applied, Ready, TurnedTo, TopFrame, PartsGathered}
use Rattle.engine.proofs.Honesty.{holding_note}
use Rattle.engine.proofs.Contexts.{work, framed_low, frames_length}
use Rattle.engine.proofs.Going.{turned_at, turned_holding}
use Rattle.engine.proofs.Onward.{depth_more, framed_more, gone_on}
use Rattle.engine.proofs.Leaving.{rewritable, done_if_still, gone_out}

module _ (b : Book) (low : ℕ) (st : Store) (q : Roots) (fr : Frames) where
  abbrev rs : List Eq
  rs = (told b).rules

  -- at a term
  module _ (p : Place) (ready : Ready b low (work st q fr) (Eval p)) where
    pub eval_rewritable : Rewritable b st p
    eval_rewritable = record {
      down = ready.down;
      inside = ready.running.focus;
      fits = (plug_fits (told b).parts (frames_in (work st q fr)) (term_in st p.0) ready.valid.fits).1;
    }

    pub letter_normal : (x : ℕ) → term_in st p.0 ≡ letter x → Done rs (term_in st p.0)
    letter_normal x e = subst (Done rs) (sym e) (letter_done (rank (told b).ranks) rs ready.down x)

    pub leaf_normal : (f n : ℕ) → term_in st p.0 ≡ sign f (parts_in st p.0 n) → n ≡ 0 → Still rs (term_in st p.0) →
        Done rs (term_in st p.0)
    leaf_normal f n e z h =
        let y : term_in st p.0 ≡ sign f none1 = e ∙ ap (λ (m : ℕ). sign f (parts_in st p.0 m)) z in
        subst (Done rs) (sym y) (sign_done f none1 tt (subst (Still rs) y h))

    pub eval_turned : (su : Store) (e : Focus) → Holding rs st su → ComesTo rs (term_in st p.0) su e →
        TurnedTo rs low (work st q fr) (Eval p) (work su q fr) e
    eval_turned su e h c =
        turned_at rs low st su q fr p e ready.running h c (framed_low fr.words.now fr.depth q.top low ready.running.framed)

  -- at a normal form
  module _ (v : Place) (ready : Ready b low (work st q fr) (Back v)) (pos : 0 < fr.depth) where
    abbrev top : Frame
    top = frame_at fr.words.now (fr.depth - 1)

    pub top_frame : TopFrame (work st q fr) top
    top_frame =
        let w = framed_more rs low st q fr v ready.running pos in
        record {
          some = pos;
          words = ready.running.frames.words;
          is = refl;
          few = w.0;
          enough = w.2;
          fits = ready.running.inside.fits;
        }

    top_asked : AskedFor rs st fr (fr.depth - 1) (term_in st v.0)
    top_asked =
        let g : ℕ → Term = λ k. held st q k in
        let was : Asks (AskedFor rs st fr) (frames_of g fr.words.now (suc (fr.depth - 1)) q.top) (term_in st v.0) =
        subst (λ (d : ℕ). Asks (AskedFor rs st fr) (frames_of g fr.words.now d q.top) (term_in st v.0))
        (depth_more rs low st q fr v ready.running pos) ready.running.asked in
        subst (λ (d : ℕ). AskedFor rs st fr d (term_in st v.0))
        (frames_length g fr.words.now (fr.depth - 1) (q.top - top.others)) was.0

    -- what the top frame asked for has the normal form v
    pub asked_inside : (o : Place) → AskedTop fr (Some o) → o.0 < st.count
    asked_inside o a = (top_asked a.0 o a.1).0

    pub turned_noted : (su : Store) (r : Roots) (gr : Frames) (c : Focus) (o : Place) (sv : Store) → AskedTop fr (Some o) →
        TurnedTo rs low (work st q fr) (Back v) (work su r gr) c → NoteSet su o.0 (v.0 + 1) sv →
        TurnedTo rs low (work st q fr) (Back v) (work sv r gr) c
    turned_noted su r gr c o sv a t n =
        let x = top_asked a.0 o a.1 in
        let h = t.holding in
        let z : v.0 + 1 - 1 ≡ v.0 = omega arith in
        let ev = ap (λ (i : ℕ). term_in su i) z ∙ h.terms v.0 ready.running.focus in
        let ew = h.terms o.0 x.0 in
        turned_holding rs low st q fr (Back v) su r gr c sv t
        (holding_note rs su sv o.0 (v.0 + 1) h.honest (omega (arith, x.0, h.longer)) (omega arith) (
          omega (arith, h.longer, ready.running.focus),
          subst (λ (u : Term). Steps rs u (term_in su (v.0 + 1 - 1))) (sym ew)
              (subst (Steps rs (term_in st o.0)) (sym ev) x.1),
          subst (Done rs) (sym ev) ready.valid.focus_done,
        ) n)

    -- the top frame by another name
    module _ (x : Frame) (is : x ≡ top) where
      pub on_turned : (next : Place) (r : Roots) (gr : Frames) → x.done < x.others →
          next.0 ≡ root_in q (q.top - x.others + x.done) → RootSet q (q.top - x.others + x.done) v.0 r → GoneOn fr next gr →
          TurnedTo rs low (work st q fr) (Back v) (work st r gr) (Eval next)
      on_turned next r gr less at s k =
          gone_on rs low st q fr v ready.running pos next r gr (subst (λ (y : Frame). y.done < y.others) is less)
          (subst (λ (y : Frame). next.0 ≡ root_in q (q.top - y.others + y.done)) is at)
          (subst (λ (y : Frame). RootSet q (q.top - y.others + y.done) v.0 r) is s) k

      module _ (ps : List Place) (su : Store) (p : Place) (full : x.done ≡ x.others)
          (parts : PartsGathered q (q.top - x.others) x.others v ps) (shared : SignShared st x.sign ps (x.others + 1) su p) where
        full_top : top.done ≡ top.others
        full_top = subst (λ (y : Frame). y.done ≡ y.others) is full

        parts_top : PartsGathered q (q.top - top.others) top.others v ps
        parts_top = subst (λ (y : Frame). PartsGathered q (q.top - y.others) y.others v ps) is parts

        shared_top : SignShared st top.sign ps (top.others + 1) su p
        shared_top = subst (λ (y : Frame). SignShared st y.sign ps (y.others + 1) su p) is shared

        pub out_rewritable : Rewritable b su p
        out_rewritable = rewritable b low st q fr v ready pos full_top ps su p parts_top shared_top

        pub out_done : Still rs (term_in su p.0) → Done rs (term_in su p.0)
        out_done = done_if_still b low st q fr v ready pos full_top ps su p parts_top shared_top

        pub out_turned : (sv : Store) (r : Roots) (gr : Frames) (e : Focus) → CutTo q (q.top - x.others) r → Popped fr gr →
            Applied rs su p sv e → TurnedTo rs low (work st q fr) (Back v) (work sv r gr) e
        out_turned sv r gr e cut pop a =
            gone_out b low st q fr v ready pos full_top ps su p parts_top shared_top sv r gr e
            (subst (λ (y : Frame). CutTo q (q.top - y.others) r) is cut) pop a
