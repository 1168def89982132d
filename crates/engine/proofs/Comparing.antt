-- Two roots brought to normal form one after the other, and what too little room says of their terms.
use Rattle.std.proofs.Common.{◌≡◌, ℕ, ◌+◌, ◌-◌, ◌<◌, ◌≤◌, Bool, true, false, ◌⊎◌, List, [], ◌∷◌, Ok, Err, Result, length, sym, refl}
use Rattle.std.proofs.Common.{ap, ◌∙◌}
use Rattle.std.proofs.Common.{subst, inl, inr, arith, IsErr}
use Rattle.std.proofs.lemmas.Bool.{false≢true}
use native.Mathlib.Decide.{dec_lt}
use Rattle.rewriting.specs.Terms.{Term, Fits}
use Rattle.rewriting.specs.Rules.{Eq, Steps, stay, Done}
use Rattle.rewriting.specs.Machine.{whole}
use Rattle.rewriting.specs.Different.{different, listed, PartOf, of_first, of_later}
use Rattle.rewriting.proofs.Different.{different_both}
use Rattle.store.specs.declared.types.Roots.{Roots}
use Rattle.store.specs.Stacks.{root_in}
use Rattle.store.specs.Stores.{term_in}
use Rattle.books.specs.declared.row.Book.{Book}
use Rattle.books.specs.Books.{told}
use Rattle.engine.specs.declared.types.NoRoom.{NoRoom}
use Rattle.engine.specs.declared.work.Work.{Work}
use Rattle.engine.specs.Spacing.{Wanting, few_slots, few_words, few_cells}
use Rattle.engine.specs.Normal.{root_term, Startable, Normalized}
use Rattle.engine.specs.Meeting.{Ample, TwoRoots, Exchanged, BothOrRoom, BothNormal, RootsCompared}

pub both_parts : (u v : Term) → different (u ∷ v ∷ []) ≤ different (u ∷ []) + different (v ∷ [])
both_parts u v = different_both (u ∷ []) (v ∷ []) (u ∷ v ∷ []) split
  where
    split : (w : Term) → PartOf w (u ∷ v ∷ []) → PartOf w (u ∷ []) ⊎ PartOf w (v ∷ [])
    split w (of_first p) = inl (of_first p)
    split w (of_later p) = inr p

-- what is wanting for u with one term kept: one of the two has more than n different parts
one_large : (n low : ℕ) (w : Work) (h : ℕ → Term) (u : Term) → Ample n w → low ≡ 1 →
    Wanting w.store.room (length w.frames.words.now) (length w.roots.cells.now) low h u →
    (n < different (u ∷ [])) ⊎ (n < different (h 0 ∷ []))
one_large n low w h u a e (few_words l) = inl (omega (arith, a.words, l))
one_large n low w h u a e (few_cells l) = inl (omega (arith, a.cells, l))
one_large n low w h u a e (few_slots l) =
    let m : w.store.room < different (u ∷ h 0 ∷ []) + 33 =
    subst (λ (k : ℕ). w.store.room < different (u ∷ listed h k) + 33) e l in
    elim (dec_lt n (different (u ∷ []))) [
      | yes k ↦ inl k
      | no k ↦ inr (omega (arith, both_parts u (h 0), a.slots, m))
    ]

module _ (b : Book) (w : Work) where
  abbrev rs : List Eq
  rs = (told b).rules

  -- the upper of two roots may be brought to normal form
  pub upper : TwoRoots b w → Startable b w
  upper t = record {
    inside = t.inside;
    some = omega (arith, t.two);
    fits = subst (λ (k : ℕ). Fits (told b).parts (root_term w k)) (omega (arith, t.two)) t.second;
  }

  module _ (v : Work) where
    -- the upper root's normal form, with the lower one kept
    pub steps_upper : w.roots.top ≡ 2 → Normalized b w v (Ok tt) → Steps rs (root_term w 1) (root_term v 1)
    steps_upper e n = subst (λ (k : ℕ). Steps rs (root_term w k) (root_term v k)) (omega (arith, e)) n.result.1.steps

    pub done_upper : w.roots.top ≡ 2 → Normalized b w v (Ok tt) → Done rs (root_term v 1)
    done_upper e n = subst (λ (k : ℕ). Done rs (root_term v k)) (omega (arith, e)) n.result.1.done

    pub lower_kept : {x : _} → w.roots.top ≡ 2 → Normalized b w v x → root_term v 0 ≡ root_term w 0
    lower_kept e n = n.terms 0 (omega (arith, e))

    -- no room: steps lead from the upper root's term to one that is too large, or the lower root's term is
    pub no_room : {e : NoRoom} (n : ℕ) → w.roots.top ≡ 2 → Normalized b w v (Err e) → Ample n w →
        ((v : Term) × Steps rs (root_term w 1) v × (n < different (v ∷ []))) ⊎ (n < different (root_term w 0 ∷ []))
    no_room n e h a = elim
        (one_large n (w.roots.top - 1) w (root_term w) (whole h.result.1.at_last) a (omega (arith, e)) h.result.1.wanting) [
          | inl l ↦
              let u = whole h.result.1.at_last in
              inl (u, subst (λ (k : ℕ). Steps rs (root_term w k) u) (omega (arith, e)) h.result.1.steps, l)
          | inr l ↦ inr l
        ]

    pub first_none : TwoRoots b w → {e : NoRoom} → Normalized b w v (Err e) →
        (x : Result (Unit {0}) NoRoom) → IsErr x → BothNormal b w v x
    first_none t h (Ok _) f = absurd (false≢true f)
    first_none t h (Err _) f = record {
      inside = h.inside;
      room = h.room;
      cells = h.cells;
      words = h.words;
      frames = h.frames;
      result = λ n a. elim (no_room n t.two h a) [
        | inl k ↦ (k.0, inr k.1, k.2)
        | inr l ↦ (root_term w 0, inl stay, l)
      ];
    }

module _ (b : Book) (w : Work) (t : TwoRoots b w)
    (v : Work) (one : Normalized b w v (Ok tt)) (s : Roots) (x : Exchanged v.roots s) where
  abbrev turned : Work
  turned = record { store = v.store; roots = s; frames = v.frames }

  two : s.top ≡ 2
  two = x.top ∙ (one.result.0 ∙ t.two)

  lower : root_term turned 0 ≡ root_term v 1
  lower = ap (λ (k : ℕ). term_in v.store k) x.first

  above : root_term turned 1 ≡ root_term w 0
  above = ap (λ (k : ℕ). term_in v.store k) x.second ∙ lower_kept b w v t.two one

  -- the other root is next
  pub other : Startable b turned
  other = record {
    inside = record {
      fits = omega (arith, x.long, x.top, one.inside.fits);
      low = λ k l. elim (dec_lt k 1) [
        | yes z ↦
            let e : 0 ≡ k = omega arith in
            let h = one.inside.low 1 (omega (arith, one.result.0, t.two)) in
            subst (λ (i : ℕ). root_in s i < v.store.count) e (omega (arith, h, x.first))
        | no z ↦
            let e : 1 ≡ k = omega (arith, two) in
            let h = one.inside.low 0 (omega (arith, one.result.0, t.two)) in
            subst (λ (i : ℕ). root_in s i < v.store.count) e (omega (arith, h, x.second))
      ];
    };
    some = omega (arith, two);
    fits = subst (λ (k : ℕ). Fits (told b).parts (root_term turned k)) (omega (arith, two))
        (subst (Fits (told b).parts) (sym above) t.first);
  }

  module _ (u : Work) where
    kept : {y : _} → Normalized b turned u y → root_term u 0 ≡ root_term v 1
    kept n = lower_kept b turned u two n ∙ lower

    ample_on : (n : ℕ) → Ample n w → Ample n turned
    ample_on n a = record {
      slots = omega (arith, a.slots, one.room);
      cells = omega (arith, a.cells, one.cells, x.long);
      words = omega (arith, a.words, one.words);
    }

    results : (y : Result (Unit {0}) NoRoom) → Normalized b turned u y → BothOrRoom b w u y
    results (Ok _) n = (
      n.result.0 ∙ two,
      subst (λ (y : Term). Steps (told b).rules y (root_term u 1)) above (steps_upper b turned u two n),
      done_upper b turned u two n,
      subst (Steps (told b).rules (root_term w 1)) (sym (kept n)) (steps_upper b w v t.two one),
      subst (Done (told b).rules) (sym (kept n)) (done_upper b w v t.two one),
    )
    results (Err _) n = λ m a.
        elim (no_room b turned u m two n (ample_on m a)) [
          | inl k ↦ (k.0, inl (subst (λ (y : Term). Steps (told b).rules y k.0) above k.1), k.2)
          | inr l ↦
              let z = subst (λ (y : Term). m < different (y ∷ [])) lower l in
              (root_term v 1, inr (steps_upper b w v t.two one), z)
        ]

    pub both : (y : Result (Unit {0}) NoRoom) → Normalized b turned u y → BothNormal b w u y
    both y n = record {
      inside = n.inside;
      room = n.room ∙ one.room;
      cells = n.cells ∙ (x.long ∙ one.cells);
      words = n.words ∙ one.words;
      frames = n.frames;
      result = results y n;
    }

-- places that are read off the roots have the roots' terms
at_places : (w : Work) (i j : ℕ) → i ≡ root_in w.roots 0 → j ≡ root_in w.roots 1 → (term_in w.store i ≡ term_in w.store j) →
    root_term w 0 ≡ root_term w 1
at_places w i j d e h =
    subst (λ (k : ℕ). root_term w 0 ≡ term_in w.store k) e (subst (λ (k : ℕ). term_in w.store k ≡ term_in w.store j) d h)

module _ (b : Book) (w : Work) where
  pub one_term : (i j : ℕ) → i ≡ root_in w.roots 0 → j ≡ root_in w.roots 1 →
      term_in w.store i ≡ term_in w.store j → RootsCompared b w w (Ok true)
  one_term i j d e h = record {
    room = refl;
    cells = refl;
    words = refl;
    frames = λ f. f;
    result = λ n a. (
      root_term w 1,
      subst (λ (t : Term). Steps (told b).rules t (root_term w 1)) (sym (at_places w i j d e h)) stay,
      stay,
    );
  }

  module _ (v : Work) (n : BothNormal b w v (Ok tt)) (i j : ℕ) (d : i ≡ root_in v.roots 0) (e : j ≡ root_in v.roots 1) where
    one_form : term_in v.store i ≡ term_in v.store j → RootsCompared b w v (Ok true)
    one_form h = record {
      room = n.room;
      cells = n.cells;
      words = n.words;
      frames = λ f. n.frames;
      result = λ m a. (
        root_term v 1,
        n.result.1,
        subst (Steps (told b).rules (root_term w 1)) (at_places v i j d e h) n.result.3,
      );
    }

    two_forms : (term_in v.store i ≡ term_in v.store j → ⊥) → RootsCompared b w v (Ok false)
    two_forms h = record {
      room = n.room;
      cells = n.cells;
      words = n.words;
      frames = λ f. n.frames;
      result = λ m a. (
        root_term v 1,
        root_term v 0,
        n.result.1,
        n.result.2,
        n.result.3,
        n.result.4,
        λ z. h (ap (λ (k : ℕ). term_in v.store k) d ∙ (sym z ∙ ap (λ (k : ℕ). term_in v.store k) (sym e))),
      );
    }

    pub forms : (x : Bool) → (x ≡ true → term_in v.store i ≡ term_in v.store j) →
        (x ≡ false → term_in v.store i ≡ term_in v.store j → ⊥) → RootsCompared b w v (Ok x)
    forms true y f = one_form (y refl)
    forms false y f = two_forms (f refl)
