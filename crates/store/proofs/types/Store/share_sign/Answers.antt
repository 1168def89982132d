-- The key is the sign's, and there is space for it.
use Rattle.std.proofs.Common.{◌<◌, arith, rules}
use Rattle.store.proofs.Sounds.{sound_in}
use Rattle.store.proofs.Sharing.{sign_of, found_at}
use Rattle.store.proofs.types.Store.share_sign.Goals as goal

pub returns-clause-shared : goal.returns-clause-shared
returns-clause-shared c =
    let a = c.args.self.now in
    let h = c.sign_head in
    let m = c.intern.ensures in
    let found = found_at a c.intern.new.self _ _ c.intern.result c.unwrap.result c.unwrap.ensures m.place
    (sign_of a h.result c.args.f c.args.parts c.map.result c.args.n (λ k l. let m : k < 4 = omega arith in search rules)
    h.ensures.tag h.ensures.symbol) in
    record {
      sound = sound_in c.intern.new.self;
      grown = m.grown;
      few = m.few;
      inside = found.0;
      term = found.1;
    }
