-- Terms read from words for which there is room.
use Rattle.std.proofs.Common.{◌≡◌, ℕ, zero, suc, ◌+◌, ◌-◌, ◌*◌, ◌≤◌, ◌⊎◌, List, [], ◌∷◌, length, take, drop, Ok, Err, Result, sym, refl, ap}
use Rattle.std.specs.Result.{IsOk}
use Rattle.std.proofs.Common.{◌∙◌, ap₂, inl, inr, arith}
use lib.Seq.{take-append_seam}
use Rattle.rewriting.specs.Terms.{Term, size, sizes, Fits}
use Rattle.rewriting.specs.Different.{different, listed, PartOf, of_first, of_later}
use Rattle.rewriting.proofs.Different.{different_both, different_size}
use Rattle.books.specs.Reading.{TermAt}
use Rattle.books.specs.Rows.{row}
use Rattle.books.proofs.Glueing.{row_length}
use Rattle.store.specs.declared.types.Store.{Store}
use Rattle.store.specs.declared.types.Roots.{Roots}
use Rattle.store.specs.declared.types.Full.{Full}
use Rattle.store.specs.declared.types.Full.TheVariants.{NoSlot, NoRoot}
use Rattle.store.specs.Stores.{held, terms_down}
use Rattle.store.specs.Making.{Stacked}
use Rattle.store.specs.Transfers.{RowOf, ReadOrFull}
use Rattle.ways.specs.Showing.{RoomFor}

-- the words of a term
pub row_of : (ps ws : List ℕ) (a z : ℕ) (t : Term) → Fits ps t → TermAt ws a z t → RowOf ps (take (z - a) (drop a ws)) t
row_of ps ws a z t fits at =
    let n : z - a ≡ length (row t) = omega (arith, at.long, row_length t) in
    record { written = sym (ap₂ take n at.written ∙ take-append_seam (row t) (drop z ws)); fits = fits }

-- no more different parts than letters and signs
one_more : (t : Term) (ts : List Term) → different (t ∷ ts) ≤ size t + different ts
one_more t ts = omega (arith, different_both (t ∷ []) ts (t ∷ ts) split, different_size t)
  where
    split : (v : Term) → PartOf v (t ∷ ts) → PartOf v (t ∷ []) ⊎ PartOf v ts
    split v (of_first p) = inl (of_first p)
    split v (of_later p) = inr p

held_parts : (st : Store) (q : Roots) (n : ℕ) → different (listed (λ k. held st q k) n) ≤ sizes (terms_down st q 0 n)
held_parts st q zero = omega arith
held_parts st q (suc n) =
    let e : 0 + n ≡ n = omega arith in
    let d : size (held st q (0 + n)) ≡ size (held st q n) = ap (λ (k : ℕ). size (held st q k)) e in
    omega (arith, one_more (held st q n) (listed (λ k. held st q k) n), held_parts st q n)

module _ (st : Store) (q : Roots) (ps ws : List ℕ) (t : Term) (of_row : RowOf ps ws t) (room : RoomFor st q (length ws)) where
  long : length ws ≡ 2 * size t
  long = omega (arith, ap length of_row.written, row_length t)

  pub row_fits : (su : Store) (r : Roots) (x : Result (Unit {0}) Full) → ReadOrFull st q t su r x → IsOk x × Stacked st q q.top t su r
  row_fits su r (Ok x) h = (refl, h)
  row_fits su r (Err NoSlot) h = absurd (omega (
    arith,
    h.1,
    one_more t (listed (λ k. held st q k) q.top),
    held_parts st q q.top,
    room.slots,
    long,
  ))
  row_fits su r (Err NoRoot) h = absurd (h.1 (omega (arith, room.cells, long)))
