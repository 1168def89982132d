-- What is left is below the limit, or the limit is all the room.
use Rattle.std.proofs.Common.{refl, arith}
use Rattle.store.proofs.Keeping.{kept_only}
use Rattle.store.proofs.types.Store.collect.Goals as goal

pub returns-then-n-self : goal.returns-then-n-self
returns-then-n-self c =
    let k = c.compact-n.ensures in kept_only c.args.self.now c.args.roots.now _ _ c.requires k.kept refl k.top k.long (λ h. omega arith)

pub returns-else-n-self : goal.returns-else-n-self
returns-else-n-self c =
    let k = c.compact-n.ensures in kept_only c.args.self.now c.args.roots.now _ _ c.requires k.kept refl k.top k.long (λ h. omega arith)
