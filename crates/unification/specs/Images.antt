-- Images: for each class the place of the term that the least replacement makes of it, once it is built.
use Rattle.std.specs.Prelude.{◌≡◌, ℕ, ◌+◌, ◌<◌, ◌≤◌, Bool, true, false, List, [], ◌∷◌, length, Some, None, Option as Maybe, slice_index_or}
use Rattle.rewriting.specs.Terms.{Term, sign, Terms, put, size}
use Rattle.store.specs.declared.types.Store.{Store}
use Rattle.store.specs.declared.types.Place.{Place}
use Rattle.store.specs.Stores.{Sound, Grown, term_in, part_in}
use Rattle.engine.specs.declared.types.Bindings.{Bindings}
use Rattle.engine.specs.Matching.{bound}
use Rattle.unification.specs.declared.types.Classes.{Classes}
use Rattle.unification.specs.declared.types.Images.{Images}
use Rattle.unification.specs.Classes.{label, Labelled, Respects, Each}

-- the image of the class with label i
abbrev pub image : Images → ℕ → Maybe Place
image m i = slice_index_or m.at i None

-- how many images are wanting
abbrev pub nones : List (Maybe Place) → ℕ
nones [] = 0
nones (None ∷ xs) = 1 + nones xs
nones (Some p ∷ xs) = nones xs

abbrev pub unbuilt : Images → ℕ
unbuilt m = nones m.at

-- the term t stands at a place whose class has an image with the term u
pub record ImageOf (st : Store) (n : ℕ) (c : Classes) (m : Images) (t u : Term) : Type 0 where
  pub i : ℕ
  pub q : Place
  pub low : i < n
  pub is : term_in st i ≡ t
  pub built : image m (label c i) ≡ Some q
  pub term : term_in st q.0 ≡ u

-- q is an image for the class with label i: the sign there with images of its parts; whatever respects the classes makes both terms one
pub record MadeImage (st : Store) (n : ℕ) (c : Classes) (m : Images) (i : ℕ) (q : Place) : Type 0 where
  pub inside : q.0 < st.count
  pub parts : (f : ℕ) (ts : Terms) → term_in st i ≡ sign f ts →
      (us : Terms) × (term_in st q.0 ≡ sign f us) × Each (ImageOf st n c m) ts us
  pub respects : (r : ℕ → Term) → Respects st n c r → put r (term_in st q.0) ≡ put r (term_in st i)

-- images for classes of the first n places, and space for those that are wanting
pub record Building (st : Store) (n : ℕ) (c : Classes) (m : Images) : Type 0 where
  pub sound : Sound st
  pub within : n ≤ st.count
  pub few : n ≤ 96
  pub full : length m.at ≡ 96
  pub labelled : Labelled st n c
  pub space : st.count + unbuilt m ≤ st.limit
  pub made : (i : ℕ) (q : Place) → i < n → image m i ≡ Some q → MadeImage st n c m i q

-- it went on
pub record Builds (st : Store) (m : Images) (n : ℕ) (c : Classes) (su : Store) (k : Images) : Type 0 where
  pub building : Building su n c k
  pub grown : Grown st su
  pub few : su.count + unbuilt k ≤ st.count + unbuilt m

-- class i waits for a class without image, whose terms are always smaller
pub record Waits (st : Store) (n : ℕ) (c : Classes) (m : Images) (i : ℕ) : Type 0 where
  pub j : ℕ
  pub low : j < n
  pub own : label c j ≡ j
  pub wanting : image m j ≡ None
  pub smaller : (r : ℕ → Term) → Respects st n c r → size (put r (term_in st j)) < size (put r (term_in st i))

abbrev pub BuiltOrWaits : Store → ℕ → Classes → Images → ℕ → Type 0
BuiltOrWaits st n c m i = label c i ≡ i → image m i ≡ None → Waits st n c m i

-- one more image; or nothing is changed, and class i has its image or waits
abbrev pub BuiltAt : Store → Images → ℕ → Classes → ℕ → Store → Images → Bool → Type 0
BuiltAt st m n c i su k true = unbuilt k < unbuilt m
BuiltAt st m n c i su k false = (su ≡ st) × (k ≡ m) × BuiltOrWaits su n c k i

-- more images; or each of the first j classes has its image or waits
abbrev pub RoundBuilt : Images → ℕ → Classes → ℕ → Store → Images → Bool → Type 0
RoundBuilt m n c j su k true = unbuilt k < unbuilt m
RoundBuilt m n c j su k false = (i : ℕ) → i < j → BuiltOrWaits su n c k i

-- the images of the first n parts of the sign at place i; or one of them has none
pub record PartWanting (st : Store) (c : Classes) (m : Images) (i n k : ℕ) : Type 0 where
  pub low : k < n
  pub wanting : image m (label c (part_in st i k)) ≡ None

abbrev pub PartImages : Store → Classes → Images → ℕ → ℕ → Maybe (List Place) → Type 0
PartImages st c m i n (Some ps) = (k : ℕ) → k < n → image m (label c (part_in st i k)) ≡ Some (slice_index_or ps k (record { 0 = 0 }))
PartImages st c m i n None = (k : ℕ) × PartWanting st c m i n k

-- the class of place i has an image
abbrev pub HasImage : Classes → Images → ℕ → Type 0
HasImage c m i = (q : Place) × (image m (label c i) ≡ Some q)

-- each of the first n places' classes has an image; or one has none
pub record Wanting (c : Classes) (m : Images) (n i : ℕ) : Type 0 where
  pub low : i < n
  pub wanting : image m (label c i) ≡ None

abbrev pub Complete : Classes → Images → ℕ → Bool → Type 0
Complete c m n true = (i : ℕ) → i < n → HasImage c m i
Complete c m n false = (i : ℕ) × Wanting c m n i

-- letter x is bound to a place that has a class
abbrev pub HasClass : Bindings → Classes → ℕ → Type 0
HasClass b c x = (p : Place) × (bound b x ≡ Some p) × (p.0 < 96) × (label c p.0 < 96)

-- each letter below 32 is bound to the image of its class
pub record LetterImages (b : Bindings) (c : Classes) (m : Images) (u : Bindings) : Type 0 where
  pub long : length u.at ≡ 32
  pub is : (x : ℕ) (p : Place) → x < 32 → bound b x ≡ Some p → bound u x ≡ image m (label c p.0)
