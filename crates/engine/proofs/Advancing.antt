-- What a term comes to at once.
use Rattle.std.proofs.Common.{◌≡◌, ℕ, ◌-◌, ◌<◌, true, List, Some, None, Option as Maybe, sym, refl, subst, arith}
use Rattle.rewriting.specs.Rules.{Eq, Steps, stay, Done}
use Rattle.rewriting.specs.Machine.{Still}
use Rattle.store.specs.declared.types.Store.{Store}
use Rattle.store.specs.declared.types.Place.{Place}
use Rattle.store.proofs.Sounds.{sound_in}
use Rattle.store.specs.Stores.{term_in, flag_in, note_in, note_of, FlagSet}
use Rattle.engine.specs.declared.types.Focus.TheVariants.{Eval, Back}
use Rattle.engine.specs.Rewriting.{Rewritten}
use Rattle.engine.specs.Running.{Honest, Holding}
use Rattle.engine.specs.Turning.{KnownNormal, Advanced, Applied}
use Rattle.engine.proofs.Honesty.{holding_grown, holding_flag, holding_on}

module _ (rs : List Eq) (st : Store) (p : Place) where
  pub holding_same : Honest rs st → Holding rs st st
  holding_same h = record { sound = sound_in st; honest = h; room = refl; longer = omega arith; terms = λ i l. refl }

  pub known_flag : Honest rs st → p.0 < st.count → flag_in st p.0 ≡ true → KnownNormal rs st p (Some p)
  known_flag h l e = record { inside = l; steps = stay; done = h.flags p.0 l e }

  pub known_note : Honest rs st → p.0 < st.count → (x : Maybe Place) → note_of x ≡ note_in st p.0 → KnownNormal rs st p x
  known_note h l None e = tt
  known_note h l (Some q) e =
      let noted : 0 < note_in st p.0 = omega (arith, e) in
      let at : note_in st p.0 - 1 ≡ q.0 = omega (arith, e) in
      record {
        inside = omega (arith, e, h.inside p.0 l noted);
        steps = subst (λ (i : ℕ). Steps rs (term_in st p.0) (term_in st i)) at (h.steps p.0 l noted);
        done = subst (λ (i : ℕ). Done rs (term_in st i)) at (h.done p.0 l noted);
      }

  pub by_known : (q : Place) → Honest rs st → KnownNormal rs st p (Some q) → Advanced rs st p st (Some (Back q))
  by_known q h k = record { holding = holding_same h; result = k }

  pub by_step : (su : Store) (q : Place) → Honest rs st → Rewritten rs st p su (Some q) → Advanced rs st p su (Some (Eval q))
  by_step su q h r = record { holding = holding_grown rs st su h r.sound r.grown; result = r.result }

  pub apply_none : (su sv : Store) → (Still rs (term_in st p.0) → Done rs (term_in st p.0)) → p.0 < st.count →
      Advanced rs st p su None → FlagSet su p.0 sv → Applied rs st p sv (Back p)
  apply_none su sv d l a f =
      let low : p.0 < su.count = omega (arith, a.holding.longer) in
      let h = holding_flag rs su sv p.0 a.holding.honest
      (subst (Done rs) (sym (a.holding.terms p.0 l)) (d a.result.0)) low f in
      let k = holding_on rs st su sv a.holding h in
      record {
        holding = k;
        result = record {
          inside = omega (arith, h.longer);
          steps = subst (Steps rs (term_in st p.0)) (sym (k.terms p.0 l)) stay;
          done = subst (Done rs) (sym (k.terms p.0 l)) (d a.result.0);
        };
      }
