-- The row that signs and sides make is a book's row with these signs.
use Rattle.std.proofs.Common.{◌≡◌, ℕ, List, [], ◌∷◌, ◌++◌, length, vec_items, vec_len, sym, refl, ◌∙◌}
use Rattle.std.proofs.Common.{append_assoc, arith}
use mathlib.Core.List.{head-eq_of_cons-eq, tail-eq_of_cons-eq}
use lib.ListN.{length-map}
use Rattle.rewriting.specs.Books.{Book}
use Rattle.books.specs.Rows.{rowEs}
use Rattle.notation.specs.Books.{parts_in, ranks_in, row_with, Whole}
use Rattle.notation.specs.Rows.{BookWays}
use Rattle.notation.specs.declared.book.Book.{Book as NamedBook}
use Rattle.notation.specs.declared.sections.Sides.{Sides}
use Rattle.notation.specs.declared.signature.Sign.{Sign}

-- what stands in the row after the parts
after : Book → List ℕ
after b = b.ranks ++ (length b.eqs ∷ length b.rules ∷ (rowEs b.eqs ++ rowEs b.rules))

-- equal lists, each of two parts of which the first are as long
halves : (us vs xs ys : List ℕ) → length us ≡ length vs → us ++ xs ≡ vs ++ ys → (us ≡ vs) × (xs ≡ ys)
halves [] [] xs ys n e = (refl, e)
halves [] (v ∷ vs) xs ys n e = absurd (omega arith)
halves (u ∷ us) [] xs ys n e = absurd (omega arith)
halves (u ∷ us) (v ∷ vs) xs ys n e =
    let (p, q) = halves us vs xs ys (omega arith) (tail-eq_of_cons-eq e) in
    ((λ i. head-eq_of_cons-eq e i ∷ p i), q)

-- the row that the signs and sides make is a book's: then its parts and ranks are those of the signs
pub whole : (k : NamedBook) (x : Sides) → BookWays (vec_items k.words) (vec_items k.ways) k.layout →
    vec_items k.words ≡ row_with (vec_items k.signature.signs) x → k.layout.signs ≡ vec_len k.signature.signs → Whole k
unfolding after
whole k x (b, r, p, w) e n =
    let ss = vec_items k.signature.signs in
    let long : length b.parts ≡ length (parts_in ss) =
    omega (arith, p.signs, length-map ss (λ (s : Sign). s.parts), k.signature.signs.ok.0) in
    let (ps, rest) = halves b.parts (parts_in ss) (after b) (ranks_in ss ++ (x.equations ∷ x.rules ∷ vec_items x.row)) long
    (tail-eq_of_cons-eq (r.is ∙ e)) in
    let ranks_long : length b.ranks ≡ length (ranks_in ss) = omega (
      arith,
      r.fine.ranked,
      long,
      length-map ss (λ (s : Sign). s.rank),
      length-map ss (λ (s : Sign). s.parts),
    ) in
    let (rs, more) = halves b.ranks (ranks_in ss) _ (x.equations ∷ x.rules ∷ vec_items x.row) ranks_long rest in
    record { book = b; reads = r; laid = p; parts = sym ps; ranks = sym rs; ways = w }

-- a row, added up
pub summed : (v1 v2 v3 v4 v5 v6 ps rs row slice : List ℕ) (n e r : ℕ) →
    v1 ≡ [] ++ n ∷ [] → v2 ≡ v1 ++ ps → v3 ≡ v2 ++ rs → v4 ≡ v3 ++ e ∷ [] → v5 ≡ v4 ++ r ∷ [] → v6 ≡ v5 ++ slice → slice ≡ row →
    v6 ≡ n ∷ (ps ++ (rs ++ (e ∷ r ∷ row)))
summed v1 v2 v3 v4 v5 v6 ps rs row slice n e r h1 h2 h3 h4 h5 h6 h7 = simp (h6, h7, h5, h4, h3, h2, h1, append_assoc)
