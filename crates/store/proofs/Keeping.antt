-- What a collection keeps of a store.
use Rattle.std.proofs.Common.{◌≡◌, ◌≤◌, length, arith}
use Rattle.store.specs.declared.types.Store.{Store}
use Rattle.store.specs.declared.types.Roots.{Roots}
use Rattle.store.specs.Roots.{root_at}
use Rattle.store.specs.Slides.{Collected}
use Rattle.store.specs.Stores.{note_in, old, Inside}
use Rattle.store.specs.Making.{KeptOnly}
use Rattle.store.proofs.Sounds.{sound_in}

-- a, with the roots q, is collected to b, with the roots r
pub kept_only : (a : Store) (q : Roots) (b : Store) (r : Roots) → Inside a q →
    Collected a.words.now a.count (λ k. root_at q.cells.now k) q.top b.words.now b.count
    (λ k. root_at r.cells.now k) →
    b.room ≡ a.room → r.top ≡ q.top → length r.cells.now ≡ length q.cells.now →
    (b.limit ≤ b.count → b.limit ≡ b.room) → KeptOnly a q b r
kept_only a q b r i k room top cells full = record {
  sound = sound_in b;
  room = room;
  roots = record {
    top = top;
    long = cells;
    inside = record { fits = omega (arith, i.fits); low = λ j l. k.inside j (omega arith) };
    terms = k.term;
  };
  carried = λ m l. let w = k.was m l in let n : note_in b m ≡ 0 = k.notes m l in
      old w.of w.old w.term w.flag (λ h. absurd (omega arith));
  count = k.count;
  limit = full;
}
