-- The flag stands above the kind, and changes nothing else.
use Rattle.std.proofs.Common.{ℕ, ◌+◌, refl, ap, ◌∙◌, arith}
use Rattle.store.specs.Slots.{kind_of}
use Rattle.store.proofs.Sounds.{sound_in}
use Rattle.store.proofs.Viewing.{kind_low, flagged}
use Rattle.store.proofs.types.Store.set_normal.Goals as goal

pub overflow_add-head : goal.overflow_add-head
overflow_add-head c = omega (arith, kind_low c.cell.result)

pub invariant_of-self : goal.invariant_of-self
invariant_of-self c =
    let a = c.args.self.now in
    let f = flagged a.words.now c.put.new.ws a.count a.mask c.args.p.0 (c.kind-head.result + 34359738368) a.shared a.chains
    (ap (λ (x : ℕ). x + 34359738368) (c.kind-head.ensures ∙ ap kind_of c.cell.ensures)) c.put.ensures (omega arith) in
    record {
      shared = f.shared;
      chains = f.chains;
      fits = omega (arith, a.fits);
      within = a.within;
      limited = a.limited;
      some = a.some;
    }

pub returns : goal.returns
returns c =
    let a = c.args.self.now in
    let f = flagged a.words.now c.put.new.ws a.count a.mask c.args.p.0 (c.kind-head.result + 34359738368) a.shared a.chains
    (ap (λ (x : ℕ). x + 34359738368) (c.kind-head.ensures ∙ ap kind_of c.cell.ensures)) c.put.ensures (omega arith) in
    record {
      sound = sound_in _;
      same = record { room = refl; count = refl; terms = f.terms };
      flag = f.flag;
      flags = f.flags;
      notes = λ j l. c.put.ensures.rest j 7 (omega arith) (λ q m. omega arith);
    }
