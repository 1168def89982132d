-- A note changes nothing else.
use Rattle.std.proofs.Common.{refl, arith}
use Rattle.store.proofs.Sounds.{sound_in}
use Rattle.store.proofs.Viewing.{noted}
use Rattle.store.proofs.types.Store.set_note.Goals as goal

pub invariant_of-self : goal.invariant_of-self
invariant_of-self c =
    let a = c.args.self.now in
    let n = noted a.words.now c.put.new.ws a.count a.mask c.args.p.0 _ a.shared a.chains c.put.ensures (omega arith) in
    record {
      shared = n.shared;
      chains = n.chains;
      fits = omega (arith, a.fits);
      within = a.within;
      limited = a.limited;
      some = a.some;
    }

pub returns : goal.returns
returns c =
    let a = c.args.self.now in
    let n = noted a.words.now c.put.new.ws a.count a.mask c.args.p.0 _ a.shared a.chains c.put.ensures (omega arith) in
    record {
      sound = sound_in _;
      same = record { room = refl; count = refl; terms = n.terms };
      note = c.put.ensures.is;
      notes = λ j l m. c.put.ensures.rest j 7 (omega arith) (λ q o. m q);
      flags = n.flags;
    }
