-- Both sides of an equation matched with two terms.
use Rattle.std.proofs.Common.{◌≡◌, ℕ, ◌<◌, Bool, true, false, ◌⊎◌, List, length, replicate, None, Some, Option, sym, ◌∙◌, subst, arith}
use Rattle.std.specs.Prelude.{◌≤◌, MatchBool, HoldsAt, slice_index_or as get_or}
use Rattle.std.specs.List.{range_with_len}
use Rattle.std.proofs.lemmas.List.FromFn.{length-range_with_len, get_or-range_with_len}
use borrow.Author.Tests.{clash}
use Rattle.rewriting.specs.Answers.{Tells}
use Rattle.rewriting.specs.Terms.{Term}
use Rattle.rewriting.specs.Rules.{Eq}
use Rattle.store.specs.declared.types.Store.{Store}
use Rattle.store.specs.declared.types.Place.{Place}
use Rattle.books.specs.declared.row.Book.{Book}
use Rattle.books.specs.Books.{told, sound_book_in, blank, equation_in}
use Rattle.books.specs.Rows.{row}
use Rattle.books.proofs.Bookish.{is_equation, equation_sides}
use Rattle.books.proofs.Elements.{nth_below, nth_is}
use Rattle.engine.specs.declared.types.Bindings.{Bindings}
use Rattle.engine.specs.Matching.{Agrees, nothing, put_in, given, MatchedOn, Pattern}
use Rattle.engine.proofs.Matcher.{fresh_is, unbound, all_agree}
use Rattle.ways.specs.Steps.{SidesAre, Equated, Comparable}

module _ (k : Book) (st : Store) (p q : Place) (can : Comparable k st p q) (i : ℕ) (low : i < length (told k).eqs) (ws : List ℕ) where
  pub left_pattern : ws ≡ row (equation_in k i).left → Pattern (told k).parts ws (equation_in k i).left st p
  left_pattern e =
      let sides = equation_sides k (sound_book_in k) i low in
      record { over = sides.left; written = e; short = sides.left_size; fits = can.left_fits }

  pub right_pattern : ws ≡ row (equation_in k i).right → Pattern (told k).parts ws (equation_in k i).right st q
  right_pattern e =
      let sides = equation_sides k (sound_book_in k) i low in
      record { over = sides.right; written = e; short = sides.right_size; fits = can.right_fits }

module _ (st : Store) (e : Eq) (t u : Term) where
  none_yet : (s : ℕ → Term) → Agrees st nothing s
  none_yet s x r k = absurd (unbound x r k)

  pub first_matched : (b : Bindings) → b.at ≡ replicate 32 None → (m : Option Bindings) → MatchedOn st b e.left t m →
      MatchedOn st nothing e.left t m
  first_matched b fresh m = subst (λ (c : Bindings). MatchedOn st c e.left t m) (fresh_is b fresh)

  pub left_fails : MatchedOn st nothing e.left t None → (x : Bool) → x ≡ false → Tells x (SidesAre e t u)
  left_fails h x is = record { holds = λ d. absurd (clash (sym is ∙ d)); fails = λ d m. h m.0 (none_yet m.0) m.1 }

  pub both_matched : (c : Bindings) → MatchedOn st nothing e.left t (Some c) → (x : Bool) (d : Bindings) →
      MatchedOn st c e.right u (given x d) → Tells x (SidesAre e t u)
  both_matched c h true d g =
      let s = put_in st d in
      let m = g.enough s (all_agree st d) in
      record { holds = λ z. (s, (h.enough s m.0).1, m.1); fails = λ z. absurd (clash (sym z)) }
  both_matched c h false d g = record {
    holds = λ z. absurd (clash z);
    fails = λ z m. g m.0 (h.needed m.0 (none_yet m.0) m.1) m.2;
  }

-- none of the first n equations, either way round
abbrev pub NoneBelow : Book → ℕ → Term → Term → Type 0
NoneBelow k n t u = (i : ℕ) → i < n → SidesAre (equation_in k i) t u ⊎ SidesAre (equation_in k i) u t → ⊥

pub by_equation : (k : Book) (st : Store) (p q : Place) → Comparable k st p q → (i : ℕ) → i < length (told k).eqs → (t u : Term) →
    SidesAre (equation_in k i) t u ⊎ SidesAre (equation_in k i) u t → Equated (told k).eqs t u
by_equation k st p q can i low t u s =
    record { index = i; equation = equation_in k i; has = is_equation k (sound_book_in k) i low; sides = s }

pub none_equated : (k : Book) (n : ℕ) (t u : Term) → length (told k).eqs ≡ n → NoneBelow k n t u → Equated (told k).eqs t u → ⊥
none_equated k n t u z none h =
    let low = nth_below (told k).eqs h.index h.equation h.has in
    let e : h.equation ≡ equation_in k h.index = sym (nth_is (told k).eqs h.index h.equation blank h.has) in
    none h.index (omega arith) (subst (λ (x : Eq). SidesAre x t u ⊎ SidesAre x u t) e h.sides)

-- what `any` says over the numbers of the equations
abbrev pub Leads : Book → Term → Term → ℕ → Type 0
Leads k t u i = SidesAre (equation_in k i) t u ⊎ SidesAre (equation_in k i) u t

number : (n i d : ℕ) → i < n → get_or (range_with_len 0 n) i d ≡ i
number n i d l = omega (arith, get_or-range_with_len 0 n i d l)

pub any_equated : (k : Book) (st : Store) (p q : Place) → Comparable k st p q → (n : ℕ) → n ≡ length (told k).eqs → (t u : Term) →
    (r : Bool) → MatchBool r ((i : ℕ) × (i < length (range_with_len 0 n)) × HoldsAt (Leads k t u) (range_with_len 0 n) i)
    ((i d : ℕ) → 0 ≤ i → i < length (range_with_len 0 n) → Leads k t u (get_or (range_with_len 0 n) i d) → ⊥) →
    Tells r (Equated (told k).eqs t u)
any_equated k st p q can n e t u true (i, l, h) =
    let low : i < n = omega (arith, length-range_with_len 0 n) in record {
      holds = λ z. by_equation k st p q can i (omega arith) t u (subst (Leads k t u) (number n i 0 low) (h 0));
      fails = λ z. absurd (clash (sym z));
    }
any_equated k st p q can n e t u false none_there = record {
  holds = λ z. absurd (clash z);
  fails = λ z. none_equated k n t u (sym e) (λ i l. subst (λ (j : ℕ). Leads k t u j → ⊥) (number n i 0 l)
      (none_there i 0 (omega arith) (omega (arith, length-range_with_len 0 n))));
}
