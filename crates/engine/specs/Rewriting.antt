-- Rewriting at the top of a term of the store, by the lowest-numbered rule whose left side matches.
use Rattle.std.specs.Prelude.{◌≡◌, ℕ, ◌+◌, ◌<◌, ◌≤◌, List, length, Some, None, Option as Maybe, ◌≢◌, slice_index, ⊤}
use Rattle.books.specs.Reading.{SymbolAt}
use Rattle.books.specs.declared.words.Symbol.TheVariants.{Sign as SignSymbol}
use Rattle.std.proofs.Math.Option.{some}
use Rattle.rewriting.specs.Terms.{nth, Term, sign, Terms, put, Fits}
use Rattle.rewriting.specs.Rules.{Eq}
use Rattle.rewriting.specs.Order.{rank, AllDown}
use Rattle.rewriting.specs.Machine.{Still, StillBefore}
use Rattle.store.specs.declared.types.Store.{Store}
use Rattle.store.specs.declared.types.Place.{Place}
use Rattle.store.specs.declared.types.Node.TheVariants.{Sign}
use Rattle.store.specs.Stores.{Sound, Grown, term_in, part_in, Shows}
use Rattle.books.specs.Indexing.{rule_top}
use Rattle.books.specs.declared.row.Book.{Book}
use Rattle.engine.specs.declared.types.Bindings.{Bindings}
use Rattle.books.specs.Books.{told, rule_in}
use Rattle.engine.specs.Matching.{Instance}

-- the rules go down, and the term at a place is over the signature
pub record Rewritable (k : Book) (st : Store) (p : Place) : Type 0 where
  pub down : AllDown (rank (told k).ranks) (told k).rules
  pub inside : p.0 < st.count
  pub fits : Fits (told k).parts (term_in st p.0)

-- rule i has the sign of the term at a place at its top, which has n parts
pub record Candidate (k : Book) (st : Store) (p : Place) (n i : ℕ) : Type 0 where
  pub low : i < length (told k).rules
  pub shows : Shows st p.0 (Sign (rule_top (told k) i) n)

-- the first part of the left side in the words has a sign, and the first part of the term at a place has another
pub record FirstPartsApart (ws : List ℕ) (st : Store) (p : Place) : Type 0 where
  pub long : 4 ≤ length ws
  pub is_sign : slice_index ws 2 ≡ 1
  pub other : (us : Terms) → term_in st (part_in st p.0 0) ≢ sign (slice_index ws 3) us

-- the words begin with a sign that has parts, and how many they are
abbrev pub Opening : List ℕ → List ℕ → Maybe (ℕ × ℕ) → Type 0
Opening ps ws (Some (g, n)) = SymbolAt ws 0 (Some (SignSymbol g)) × (n ≡ slice_index ps g) × (0 < n)
Opening ps ws None = ⊤

-- rule i is the lowest-numbered one that can be used at the top of the term at a place, with what is put for the letters of its left side
pub record LowestRule (k : Book) (st : Store) (p : Place) (b : Bindings) (i : ℕ) : Type 0 where
  pub low : i < length (told k).rules
  pub fits : Instance st b (rule_in k i).left (term_in st p.0)
  pub first : StillBefore (told k).rules i (term_in st p.0)

-- that rule, or that no rule can be used
abbrev pub RuleFound : Book → Store → Place → Bindings → Maybe ℕ → Type 0
RuleFound k st p b (Some i) = LowestRule k st p b i
RuleFound k st p b None = Still (told k).rules (term_in st p.0)

-- the term t is a left side, that of the lowest-numbered rule that can be used at its top, and the right side of this rule stands at
-- place q, with the same put for letters
pub record ByRule (rs : List Eq) (t : Term) (su : Store) (q : Place) : Type 0 where
  pub index : ℕ
  pub rule : Eq
  pub filling : ℕ → Term
  pub has : nth rs index ≡ some rule
  pub left : put filling rule.left ≡ t
  pub first : StillBefore rs index t
  pub right : term_in su q.0 ≡ put filling rule.right
  pub inside : q.0 < su.count

-- that, or no rule can be used and nothing is changed
abbrev pub ByRuleOrStill : List Eq → Store → Place → Store → Maybe Place → Type 0
ByRuleOrStill rs st p su (Some q) = ByRule rs (term_in st p.0) su q
ByRuleOrStill rs st p su None = Still rs (term_in st p.0) × (su ≡ st)

pub record Rewritten (rs : List Eq) (st : Store) (p : Place) (su : Store) (x : Maybe Place) : Type 0 where
  pub sound : Sound su
  pub grown : Grown st su
  pub few : su.count ≤ st.count + 32
  pub result : ByRuleOrStill rs st p su x
