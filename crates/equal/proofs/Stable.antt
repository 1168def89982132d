-- Facts on books and their rows that two negations give back, since each can be decided or says something decidable of all numbers.
use Rattle.std.proofs.Common.{◌≡◌, ℕ, zero, suc, List, [], ◌∷◌, ◌++◌, length, sym, refl, ap, ◌∙◌, ap₂, arith}
use mathlib.Core.Option.{some, none}
use native.Mathlib.Decide.{ℕ_discrete, dec_le, dec_lt}
use Rattle.rewriting.specs.Terms.{Term, SmallLetter, Ok}
use Rattle.rewriting.specs.Rules.{Eq}
use Rattle.rewriting.specs.Books.{Book, Sides, Fine}
use Rattle.rewriting.proofs.Signature.{dec_over}
use Rattle.books.specs.declared.words.Letters.TheVariants.{Any}
use Rattle.books.specs.Layouts.{listed}
use Rattle.books.specs.Reading.{Found, read}
use Rattle.books.specs.Rows.{Reads, rowB, rowTerms, rowWays, WaysFit}
use Rattle.books.proofs.Reading.{read_these}
use Rattle.books.proofs.Sided.{terms, listed_terms, count_terms, rows_terms}
use Rattle.books.proofs.Unique.{over_any}

abbrev pub Stable : Type 0 → Type 0
Stable A = ((A → ⊥) → ⊥) → A

pub by_dec : {A : Type 0} → Dec A → Stable A
by_dec (yes a) h = a
by_dec (no n) h = absurd (h n)

-- what follows from a fact follows from its two negations, with two negations
pub twice : {A B : Type 0} → (A → B) → ((A → ⊥) → ⊥) → (B → ⊥) → ⊥
twice f h n = h (λ a. n (f a))

pub dec_words : (xs ys : List ℕ) → Dec (xs ≡ ys)
dec_words [] [] = yes refl
dec_words [] (y ∷ ys) = no λ e. let z : ◌≡◌ {A = ℕ} 0 1 = cc in omega arith
dec_words (x ∷ xs) [] = no λ e. let z : ◌≡◌ {A = ℕ} 0 1 = cc in omega arith
dec_words (x ∷ xs) (y ∷ ys) = both (ℕ_discrete x y) (dec_words xs ys)
  where
    both : Dec (x ≡ y) → Dec (xs ≡ ys) → Dec (x ∷ xs ≡ y ∷ ys)
    both (yes e) (yes d) = yes (ap₂ ◌∷◌ e d)
    both (no n) d = no λ e. n (cc)
    both (yes e) (no n) = no λ d. n (cc)

dec_ok : (ps : List ℕ) (t : Term) → Dec (Ok ps t)
dec_ok ps t = dec_over ps SmallLetter (λ x. dec_lt x 16) t

stable_sides : (ps : List ℕ) (e : Eq) → Stable (Sides ps e)
stable_sides ps e h = record {
  left = by_dec (dec_ok ps e.left) (twice (λ s. s.left) h);
  right = by_dec (dec_ok ps e.right) (twice (λ s. s.right) h);
  left_size = by_dec (dec_le _ 32) (twice (λ s. s.left_size) h);
  right_size = by_dec (dec_le _ 32) (twice (λ s. s.right_size) h);
}

stable_fine : (b : Book) → Stable (Fine b)
stable_fine b h = record {
  some_sign = by_dec (dec_le 1 (length b.parts)) (twice (λ f. f.some_sign) h);
  few_signs = by_dec (dec_le (length b.parts) 32) (twice (λ f. f.few_signs) h);
  few_parts = λ i n e. by_dec (dec_le n 4) (twice (λ f. f.few_parts i n e) h);
  ranked = by_dec (ℕ_discrete (length b.ranks) (length b.parts)) (twice (λ f. f.ranked) h);
  differ = λ i j x d e. by_dec (ℕ_discrete i j) (twice (λ f. f.differ i j x d e) h);
  few_eqs = by_dec (dec_le (length b.eqs) 64) (twice (λ f. f.few_eqs) h);
  few_rules = by_dec (dec_le (length b.rules) 64) (twice (λ f. f.few_rules) h);
  eqs = λ i e d. stable_sides b.parts e (twice (λ f. f.eqs i e d) h);
  rules = λ i e d. stable_sides b.parts e (twice (λ f. f.rules i e d) h);
}

pub stable_reads : (s : List ℕ) (b : Book) → Stable (Reads s b)
stable_reads s b h = record {
  is = by_dec (dec_words (rowB b) s) (twice (λ r. r.is) h);
  fine = stable_fine b (twice (λ r. r.fine) h);
}

-- the ways that words say: n of them
module _ (ps : List ℕ) where
  abbrev then_ways : Found → (List ℕ → List (List Term)) → List (List Term)
  then_ways none more = []
  then_ways (some p) more = listed p.0 ∷ more p.1

  abbrev pub ways_of : ℕ → List ℕ → List (List Term)
  ways_of zero h = []
  ways_of (suc n) [] = []
  ways_of (suc n) (k ∷ h) = then_ways (read Any ps k h) (ways_of n)

  pub ways_read : (ws : List (List Term)) → WaysFit ps ws → ways_of (length ws) (rowWays ws) ≡ ws
  ways_read [] f = refl
  ways_read (w ∷ ws) f =
      let e : read Any ps (length w) (rowTerms w ++ rowWays ws) ≡ some (terms w, rowWays ws) =
      ap₂ (λ (n : ℕ) (v : List ℕ). read Any ps n (v ++ rowWays ws)) (sym (count_terms w)) (sym (rows_terms w))
      ∙ read_these Any ps (terms w) (rowWays ws) (over_any ps w f.0) in
      ap (λ (o : Found). then_ways o (ways_of (length ws))) e ∙ ap₂ ◌∷◌ (listed_terms w) (ways_read ws f.1)
