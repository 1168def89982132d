-- Without a cell for the root nothing is done; with one, it is the place.
use Rattle.std.proofs.Common.{refl, arith}
use Rattle.store.proofs.Sounds.{sound_in}
use Rattle.store.proofs.Placing.{roots_same, grown_same, carried_grown}
use Rattle.store.proofs.types.Store.make.Goals as goal

pub returns-then-room-plan : goal.returns-then-room-plan
returns-then-room-plan c =
    let a = c.args.self.now in
    record {
      sound = sound_in a;
      room = refl;
      carried = carried_grown a a (grown_same a);
      roots = (roots_same a c.args.roots.now c.requires.inside, λ h. omega arith);
    }
