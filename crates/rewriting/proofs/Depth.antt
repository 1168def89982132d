-- What a state holds is part of the whole, so it is no more than the whole's different parts.
use mathlib.Core.Path.{ap}
use mathlib.Core.Logic.{◌⊎◌, inl, inr, ⊎_elim}
use mathlib.Core.List.{List, [], ◌∷◌, ◌++◌}
use Prim.Native.Nat.{ℕ, zero, suc, ◌+◌, ◌*◌, ◌<◌, ◌≤◌}
use native.Mathlib.Omega.{arith}
use lib.ListN.{length}
use Rattle.rewriting.specs.Terms.{Term, sign, Terms, none1, and1, size, Fits}
use Rattle.rewriting.specs.Rules.{Part, itself, in_part, Parts, in_this, in_later}
use Rattle.rewriting.specs.Different.{different, PartOf, of_first, of_later, listed}
use Rattle.rewriting.specs.Books.{Book, Fine}
use Rattle.rewriting.specs.Machine.{Frame, frame, eval, back, apply, State, state, frames, focal, around, plug, whole}
use Rattle.rewriting.specs.Machine.{before, held_frames, held, places}
use Rattle.rewriting.specs.MachineTheorems.{MachineRoom, MachinePlaces}
use Rattle.rewriting.proofs.Replacing.{put_part, letter_part}
use Rattle.rewriting.proofs.Different.{part_trans, different_most, different_mono, different_both}
use Rattle.rewriting.proofs.Glueing.{glue_before, glue_after}
use Rattle.rewriting.proofs.Framing.{around_size, part_plug, plug_fits, few_places}

-- the term at a depth: of the focus at 0, and each around the one before; they grow, and are parts of the whole
spine : List Frame → Term → ℕ → Term
spine ks t zero = t
spine [] t (suc i) = t
spine (k ∷ ks) t (suc i) = spine ks (around k t) i

spine_part : (ks : List Frame) (t : Term) (i : ℕ) → Part (spine ks t i) (plug ks t)
unfolding spine
spine_part ks t zero = part_plug ks itself
spine_part [] t (suc i) = itself
spine_part (k ∷ ks) t (suc i) = spine_part ks (around k t) i

spine_grows : (ks : List Frame) (t : Term) (i j : ℕ) → i < j → j < suc (length ks) → size (spine ks t i) < size (spine ks t j)
unfolding spine
spine_grows [] t i j l m = absurd (omega arith)
spine_grows (k ∷ ks) t i zero l m = absurd (omega arith)
spine_grows (k ∷ ks) t (suc i) (suc j) l m = spine_grows ks (around k t) i j (omega arith) (omega arith)
spine_grows (k ∷ []) t zero (suc zero) l m = around_size k t
spine_grows (k ∷ []) t zero (suc (suc j)) l m = absurd (omega arith)
spine_grows (k ∷ (n ∷ ks)) t zero (suc zero) l m = around_size k t
spine_grows (k ∷ (n ∷ ks)) t zero (suc (suc j)) l m =
    omega (arith, around_size k t, spine_grows (n ∷ ks) (around k t) zero (suc j) (omega arith) (omega arith))

pub depth : (x : State) → length (frames x) < different (whole x ∷ [])
depth (state ks c) = different_most (plug ks (focal c) ∷ []) (spine ks (focal c)) (suc (length ks))
    (λ i j l m e. omega (arith, spine_grows ks (focal c) i j l m, ap size e))
    (λ i l. of_first (spine_part ks (focal c) i))

-- a part of what is held is a part of the whole
before_part : (v : Term) (ts : Terms) (us : List Term) → PartOf v (before ts us) → Parts v ts ⊎ PartOf v us
before_part v none1 us p = inr p
before_part v (and1 t ts) us (of_first p) = inl (in_this p)
before_part v (and1 t ts) us (of_later p) = ⊎_elim (λ q. inl (in_later q)) (λ q. inr q) (before_part v ts us p)

held_frames_part : (v : Term) (ks : List Frame) (t : Term) → PartOf v (held_frames ks) → Part v (plug ks t)
held_frames_part v [] t p = elim p [ ]
held_frames_part v (frame f bs ts ∷ ks) t p = ⊎_elim
    (λ q. part_plug ks (in_part (glue_before (and1 t ts) q)))
    (λ q. ⊎_elim
    (λ r. part_plug ks (in_part (glue_after bs (in_later r))))
    (λ r. held_frames_part v ks (around (frame f bs ts) t) r)
    (before_part v ts (held_frames ks) q))
    (before_part v bs (before ts (held_frames ks)) p)

held_first : (v : Term) (ks : List Frame) (t : Term) → PartOf v (t ∷ held_frames ks) → Part v (plug ks t)
held_first v ks t (of_first p) = part_plug ks p
held_first v ks t (of_later p) = held_frames_part v ks t p

pub held_part : (x : State) (v : Term) → PartOf v (held x) → Part v (whole x)
held_part (state ks (eval t)) v p = held_first v ks t p
held_part (state ks (back u)) v p = held_first v ks u p
held_part (state ks (apply f ts)) v p = ⊎_elim
    (λ q. part_plug ks (in_part q)) (λ q. held_frames_part v ks (sign f ts) q) (before_part v ts (held_frames ks) p)

pub held_few : (x : State) → different (held x) ≤ different (whole x ∷ [])
held_few x = different_mono (held x) (whole x ∷ []) (λ v p. of_first (held_part x v p))

part_of_split : (v : Term) (us ws : List Term) → PartOf v (us ++ ws) → PartOf v us ⊎ PartOf v ws
part_of_split v [] ws p = inr p
part_of_split v (u ∷ us) ws (of_first p) = inl (of_first p)
part_of_split v (u ∷ us) ws (of_later p) = ⊎_elim (λ q. inl (of_later q)) (λ q. inr q) (part_of_split v us ws p)

pub held_beside : (us : List Term) (x : State) → different (us ++ held x) ≤ different us + different (whole x ∷ [])
held_beside us x = different_both us (whole x ∷ []) (us ++ held x)
    (λ v p. ⊎_elim (λ q. inl q) (λ q. inr (of_first (held_part x v q))) (part_of_split v us (held x) p))

-- a part of listed terms is a part of one of them
listed_part : (v : Term) (g : ℕ → Term) (n : ℕ) → PartOf v (listed g n) → (k : ℕ) × (k < n) × Part v (g k)
listed_part v g zero p = elim p [ ]
listed_part v g (suc n) (of_first p) = (n, omega arith, p)
listed_part v g (suc n) (of_later p) = let (k, l, q) = listed_part v g n p in (k, omega arith, q)

pub parts_few : (t : Term) (g : ℕ → Term) (n : ℕ) → ((k : ℕ) → k < n → Part (g k) t) → different (listed g n) ≤ different (t ∷ [])
parts_few t g n h = different_mono (listed g n) (t ∷ [])
    (λ v p. let (k, l, q) = listed_part v g n p in of_first (part_trans q (h k l)))

pub parts_beside : (t u : Term) (g : ℕ → Term) (n : ℕ) → ((k : ℕ) → k < n → Part (g k) t ⊎ Part (g k) u) →
    different (listed g n) ≤ different (t ∷ []) + different (u ∷ [])
parts_beside t u g n h = different_both (t ∷ []) (u ∷ []) (listed g n)
    (λ v p. let (k, l, q) = listed_part v g n p in
    ⊎_elim (λ r. inl (of_first (part_trans q r))) (λ r. inr (of_first (part_trans q r))) (h k l))

pub machine_room_lem : MachineRoom
machine_room_lem = record {
  depth = depth;
  focus_part = λ ks t v p. part_plug ks p;
  put_part = λ s t v p. put_part s p;
  letter_part = λ x t i. letter_part i;
  held_part = held_part;
  holds = held_few;
  holds_beside = held_beside;
  parts = parts_few;
  parts_beside = parts_beside;
}

pub machine_places_lem : MachinePlaces
machine_places_lem = record { fit = plug_fits; few = λ b fine x f. few b fine x f }
  where
    few : (b : Book) → Fine b → (x : State) → Fits b.parts (whole x) → places (frames x) ≤ 3 * length (frames x)
    few b fine (state ks c) f = few_places b.parts fine.few_parts ks (plug_fits b.parts ks (focal c) f).0
