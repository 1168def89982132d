-- Matching: what bindings say, and what is still to be matched.
use Rattle.std.specs.Prelude.{◌≡◌, ℕ, ◌+◌, ◌*◌, ◌<◌, ◌≤◌, Bool, true, false, ◌⊎◌, List, length, get_or, drop, replicate}
use Rattle.std.specs.Prelude.{Some, None}
use Rattle.std.specs.Prelude.{Option as Maybe, ◌≢◌, [], ◌∷◌, slice_index_or, slice_set}
use Rattle.rewriting.specs.Terms.{Term, letter, sign, Terms, none1, and1, glue, count, size, sizes, put, puts, In, Ins}
use Rattle.rewriting.specs.Terms.{Over, AllOver, SmallLetter, AnyLetter}
use Rattle.books.specs.Rows.{row, rows}
use Rattle.store.specs.declared.types.Store.{Store}
use Rattle.store.specs.declared.types.Place.{Place}
use Rattle.store.specs.Stores.{term_in}
use Rattle.engine.specs.declared.types.Bindings.{Bindings}

-- what is bound to letter x
abbrev pub bound : Bindings → ℕ → Maybe Place
bound b x = slice_index_or b.at x None

-- a replacement is as the bindings say
abbrev pub Agrees : Store → Bindings → (ℕ → Term) → Type 0
Agrees st b s = (x : ℕ) (q : Place) → bound b x ≡ Some q → s x ≡ term_in st q.0

-- the replacement that the bindings are; letters that are not bound stay
abbrev pub term_or : Store → ℕ → Maybe Place → Term
term_or st x None = letter x
term_or st x (Some q) = term_in st q.0

abbrev pub put_in : Store → Bindings → ℕ → Term
put_in st b x = term_or st x (bound b x)

-- each bound place stands in the store
abbrev pub AllInside : Store → Bindings → Type 0
AllInside st b = (x : ℕ) (q : Place) → bound b x ≡ Some q → q.0 < st.count

-- letter x is bound
abbrev pub Bound : Bindings → ℕ → Type 0
Bound b x = (q : Place) × (bound b x ≡ Some q)

-- bindings by which the term at a place is an instance of a pattern
pub record Instance (st : Store) (b : Bindings) (l : Term) (t : Term) : Type 0 where
  pub is : put (put_in st b) l ≡ t
  pub letters : (x : ℕ) → In x l → Bound b x
  pub inside : AllInside st b

-- no letter is bound
abbrev pub nothing : Bindings
nothing = record { at = replicate 32 None }

-- the bindings c say what b says and that l becomes the term t, and no more; they have the letters of both
pub record Extended (st : Store) (b : Bindings) (l t : Term) (c : Bindings) : Type 0 where
  pub enough : (s : ℕ → Term) → Agrees st c s → Agrees st b s × (put s l ≡ t)
  pub needed : (s : ℕ → Term) → Agrees st b s → put s l ≡ t → Agrees st c s
  pub letters : (x : ℕ) → Bound b x ⊎ In x l → Bound c x
  pub full : length c.at ≡ 32
  pub inside : AllInside st c

-- that, or nothing that is put for letters as b says makes l the term t
abbrev pub MatchedOn : Store → Bindings → Term → Term → Maybe Bindings → Type 0
MatchedOn st b l t (Some c) = Extended st b l t c
MatchedOn st b l t None = (s : ℕ → Term) → Agrees st b s → put s l ≢ t

-- the bindings, if so
abbrev pub given : Bool → Bindings → Maybe Bindings
given true c = Some c
given false c = None

-- the words are the row of the pattern l, and the term at a place is over its signature
pub record Pattern (ps ws : List ℕ) (l : Term) (st : Store) (p : Place) : Type 0 where
  pub over : Over SmallLetter ps l
  pub written : ws ≡ row l
  pub short : size l ≤ 32
  pub fits : Over AnyLetter ps (term_in st p.0)

abbrev pub SomePattern : List ℕ → Store → Place → Type 0
SomePattern ws st p = (ps : List ℕ) × (l : Term) × Pattern ps ws l st p

-- letter x is bound to q, and was before or nothing was; or it was bound to another place
abbrev pub BoundNow : Bindings → ℕ → Place → Bindings → Bool → Type 0
BoundNow b x q c true = ((bound b x ≡ Some q) × (c ≡ b)) ⊎ ((bound b x ≡ None) × (c.at ≡ slice_set b.at x (Some q)))
BoundNow b x q c false = (p : Place) × (bound b x ≡ Some p) × (p.0 ≢ q.0)

-- the terms that are still to be matched, the next one first, which is the last of the places
abbrev pub stacked : Store → List Place → Terms
stacked st [] = none1
stacked st (p ∷ ps) = glue (stacked st ps) (and1 (term_in st p.0) none1)

-- each of the places stands in the store
abbrev pub PlacesInside : Store → List Place → Type 0
PlacesInside st ps = (d : ℕ) → d < length ps → (get_or ps d (record { 0 = 0 })).0 < st.count

-- places on top of others, whose terms are in front of theirs
pub record Pushed (st : Store) (q : List Place) (us : Terms) (r : List Place) : Type 0 where
  pub len : length r ≡ length q + count us
  pub terms : stacked st r ≡ glue us (stacked st q)
  pub inside : PlacesInside st r

-- the sign at a place is f, and its parts are pending; or the term there is not of sign f
abbrev pub PartsPending : Store → Place → ℕ → List Place → List Place → Bool → Type 0
PartsPending st p f q r true = (us : Terms) × (term_in st p.0 ≡ sign f us) × Pushed st q us r
PartsPending st p f q r false = (us : Terms) → term_in st p.0 ≢ sign f us

-- where matching the pattern l with the term t has come to, from the bindings b0 on: the words from place a on are these patterns,
-- for which the pending terms are wanted; what is put for letters as b0 says makes l the term t exactly if it is as the bindings say
-- and makes the patterns these terms
pub record MatchingWith (ps ws : List ℕ) (b0 : Bindings) (l t : Term) (st : Store) (a : ℕ) (q : List Place) (b : Bindings)
    (us : Terms) : Type 0 where
  pub over : AllOver SmallLetter ps us
  pub written : drop a ws ≡ rows us
  pub long : a + 2 * sizes us ≡ length ws
  pub counted : count us ≡ length q
  pub inside : PlacesInside st q
  pub fit : AllOver AnyLetter ps (stacked st q)
  pub full : length b.at ≡ 32
  pub bound_inside : AllInside st b
  pub enough : (s : ℕ → Term) → Agrees st b s → puts s us ≡ stacked st q → Agrees st b0 s × (put s l ≡ t)
  pub needed : (s : ℕ → Term) → Agrees st b0 s → put s l ≡ t → Agrees st b s × (puts s us ≡ stacked st q)
  pub letters : (x : ℕ) → Bound b0 x ⊎ In x l → Bound b x ⊎ Ins x us

abbrev pub Matching : List ℕ → List ℕ → Bindings → Term → Term → Store → ℕ → List Place → Bindings → Type 0
Matching ps ws b0 l t st a q b = (us : Terms) × MatchingWith ps ws b0 l t st a q b us

-- that, of any pattern whose row the words are
abbrev pub MatchesAll : List ℕ → Bindings → Store → Place → ℕ → List Place → Bindings → Type 0
MatchesAll ws b0 st p a q b = (ps : List ℕ) (l : Term) → Pattern ps ws l st p → Matching ps ws b0 l (term_in st p.0) st a q b

-- one symbol further, or nothing put for letters as b0 says makes l the term t
abbrev pub Turned : List ℕ → List ℕ → Bindings → Term → Term → Store → ℕ → List Place → Bindings → Bool → Type 0
Turned ps ws b0 l t st a q b true = Matching ps ws b0 l t st a q b
Turned ps ws b0 l t st a q b false = (s : ℕ → Term) → Agrees st b0 s → put s l ≢ t

-- a turn with the symbol at place a, whatever is matched
abbrev pub Turns : List ℕ → Store → ℕ → List Place → Bindings → List Place → Bindings → Bool → Type 0
Turns ws st a q b r c x = (ps : List ℕ) (b0 : Bindings) (l t : Term) →
    Matching ps ws b0 l t st a q b → Turned ps ws b0 l t st (a + 2) r c x
