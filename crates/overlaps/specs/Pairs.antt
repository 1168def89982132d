-- Critical pairs: the letters in a store, their bindings, and the two results where two rules meet.
use Rattle.std.specs.Prelude.{◌≡◌, ℕ, ◌+◌, ◌<◌, ◌≤◌, false, length, Some, None, Option as Maybe, ◌≢◌}
use Rattle.rewriting.specs.Terms.{Term, letter, put}
use Rattle.rewriting.specs.Rules.{Part, renamed}
use Rattle.rewriting.specs.Overlaps.{fill, Least}
use Rattle.store.specs.declared.types.Store.{Store}
use Rattle.store.specs.declared.types.Place.{Place}
use Rattle.store.specs.Stores.{Sound, Grown, term_in, flag_in, note_in}
use Rattle.books.specs.declared.row.Book.{Book}
use Rattle.books.specs.Books.{told, rule_in}
use Rattle.engine.specs.declared.types.Bindings.{Bindings}
use Rattle.engine.specs.Matching.{bound, put_in, AllInside, Bound}
use Rattle.engine.specs.Running.{Honest}
use Rattle.unification.specs.Unifiers.{Unified}
use Rattle.overlaps.specs.declared.types.Overlap.{Overlap}
use Rattle.overlaps.specs.declared.types.Pair.{Pair}
use Rattle.overlaps.specs.Positions.{At}

-- the first n letters are added to a store with nothing in it, and bound to their places
pub record LettersMade (n : ℕ) (st su : Store) (b : Bindings) : Type 0 where
  pub sound : Sound su
  pub grown : Grown st su
  pub few : su.count ≤ n
  pub full : length b.at ≡ 32
  pub low : (i x : ℕ) → i < su.count → term_in su i ≡ letter x → x < n
  pub letters : (x : ℕ) → x < n → (p : Place) × (bound b x ≡ Some p) × (p.0 < su.count) × (term_in su p.0 ≡ letter x)

-- each of the first 16 letters is bound to what the letter 16 above it was bound to
pub record Shifted (b c : Bindings) : Type 0 where
  pub low : (x : ℕ) → x < 16 → bound c x ≡ bound b (x + 16)
  pub none : (x : ℕ) → 16 ≤ x → bound c x ≡ None

-- letter 16 is bound to p, and the others as they were
pub record HoleBound (b : Bindings) (p : Place) (c : Bindings) : Type 0 where
  pub here : bound c 16 ≡ Some p
  pub others : (x : ℕ) → (x ≢ 16) → bound c x ≡ bound b x

-- all 32 letters are bound to places of the store
pub record AllGiven (st : Store) (b : Bindings) : Type 0 where
  pub all : (x : ℕ) → x < 32 → Bound b x
  pub inside : AllInside st b

-- no slot has a flag or a note
abbrev pub Fresh : Store → Type 0
Fresh st = (i : ℕ) → i < st.count → (flag_in st i ≡ false) × (note_in st i ≡ 0)

-- the least replacement for the part and the other rule's left side; or that there is none
pub record UnifierFound (b : Book) (o : Overlap) (st su : Store) (r : Maybe Bindings) : Type 0 where
  pub sound : Sound su
  pub fresh : Fresh su
  pub room : su.room ≡ st.room
  pub space : su.count + 96 ≤ su.limit
  pub unified : (v : Term) (place : Part v (rule_in b o.outer).left) → At place o.from o.to →
      Unified su v (renamed (rule_in b o.inner).left) r

-- the places of the two results, with s put for letters
pub record Results {v t : Term} (place : Part v t) (s : ℕ → Term) (first-right second-right : Term) (su : Store) (r : Pair) : Type 0 where
  pub first_inside : r.first.0 < su.count
  pub second_inside : r.second.0 < su.count
  pub first : term_in su r.first.0 ≡ put s first-right
  pub second : term_in su r.second.0 ≡ fill place s (put s (renamed second-right))

pub record ResultsBuilt (b : Book) (o : Overlap) (st : Store) (u : Bindings) (su : Store) (r : Pair) : Type 0 where
  pub sound : Sound su
  pub grown : Grown st su
  pub results : (v : Term) (place : Part v (rule_in b o.outer).left) → At place o.from o.to →
      Results place (put_in st u) (rule_in b o.outer).right (rule_in b o.inner).right su r

-- both results with the least replacement; or nothing makes the part and the other rule's left side one
abbrev pub PairOrNever : Book → Overlap → {v t : Term} → Part v t → Store → Maybe Pair → Type 0
PairOrNever b o {v} place su (Some r) = (l : Least v (renamed (rule_in b o.inner).left))
    × Results place l.s (rule_in b o.outer).right (rule_in b o.inner).right su r
PairOrNever b o {v} place su None = (s : ℕ → Term) → put s v ≢ put s (renamed (rule_in b o.inner).left)

pub record PairFound (b : Book) (o : Overlap) (st su : Store) (r : Maybe Pair) : Type 0 where
  pub honest : Honest (told b).rules su
  pub room : su.room ≡ st.room
  pub pair : (v : Term) (place : Part v (rule_in b o.outer).left) → At place o.from o.to → PairOrNever b o place su r
