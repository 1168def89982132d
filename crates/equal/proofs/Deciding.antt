-- That a book settles its equations, with the ways handed in, is given back by two negations.
use Rattle.std.proofs.Common.{◌≡◌, ℕ, ◌⊎◌, List, length, sym, ap, ◌∙◌, subst, inl, inr}
use Rattle.rewriting.specs.Terms.{Term, SmallLetter, Fits}
use Rattle.rewriting.specs.Rules.{Steps, Meet}
use Rattle.rewriting.specs.Order.{rank, AllDown}
use Rattle.rewriting.specs.Books.{Book, Fine, OneEnd, NoLess}
use Rattle.rewriting.specs.Ways.{Ways}
use Rattle.rewriting.proofs.Comparing.{dec_term, dec_greater}
use Rattle.rewriting.proofs.Signature.{over_fits}
use Rattle.rewriting.proofs.Reducts.{comes}
use Rattle.rewriting.proofs.Stepping.{Comes}
use Rattle.rewriting.proofs.Pairs.{told_by_pairs_lem}
use Rattle.rewriting.proofs.Verdicts.{lost_by}
use Rattle.rewriting.proofs.Waying.{dec_ways}
use Rattle.books.specs.Reading.{book_of}
use Rattle.books.specs.Rows.{Reads, rowWays}
use Rattle.books.proofs.Unique.{the_book}
use Rattle.equal.specs.declared.types.Judged.TheVariants.{Settles}
use Rattle.equal.specs.Promises.{JudgedSays}
use Rattle.equal.proofs.Stable.{Stable, by_dec, twice, dec_words, stable_reads, ways_of, ways_read}
use Rattle.ways.proofs.Remaining.{ways_fit}
use Rattle.equal.proofs.Excluding.{settles_by}

pub stable_down : (b : Book) → Stable (AllDown (rank b.ranks) b.rules)
stable_down b h i r e = by_dec (dec_greater (rank b.ranks) r.left r.right) (twice (λ d. d i r e) h)

module _ (b : Book) (fine : Fine b) (down : AllDown (rank b.ranks) b.rules) where
  stable_one : Stable (OneEnd b)
  stable_one h = at (told_by_pairs_lem b fine down)
    where
      at : OneEnd b ⊎ (OneEnd b → ⊥) → OneEnd b
      at (inl one) = one
      at (inr apart) = absurd (h apart)

  stable_less : OneEnd b → Stable (NoLess b)
  stable_less one h i e d = at (comes b fine down e.left fl) (comes b fine down e.right fr)
    where
      fl : Fits b.parts e.left
      fl = over_fits b.parts SmallLetter e.left (fine.eqs i e d).left

      fr : Fits b.parts e.right
      fr = over_fits b.parts SmallLetter e.right (fine.eqs i e d).right

      at : Comes b.rules e.left → Comes b.rules e.right → Meet b.rules e.left e.right
      at m n = elim (dec_term m.0 n.0) [
        | yes q ↦ (n.0, subst (Steps b.rules e.left) q m.1, n.1)
        | no differ ↦ absurd (h (λ less. lost_by b one e.left e.right m.0 n.0 fl fr m.1 m.2 n.1 n.2 differ
            (less i e d)))
      ]

-- the ways that the words say show the rules, if any do
module _ (b : Book) (h : List ℕ) where
  abbrev Shown : Type 0
  Shown = (ws : List (List Term)) × (rowWays ws ≡ h) × Ways b.parts b.eqs b.rules ws

  abbrev read_ways : List (List Term)
  read_ways = ways_of b.parts (length b.rules) h

  same_ways : (w : Shown) → w.0 ≡ read_ways
  same_ways (ws, written, ways) =
      let f = ways_fit b.parts b.eqs b.rules ws ways in
      sym (ways_read b.parts ws f.0)
      ∙ (ap (λ (n : ℕ). ways_of b.parts n (rowWays ws)) f.1 ∙ ap (ways_of b.parts (length b.rules)) written)

  stable_shown : Stable Shown
  stable_shown k = (
    read_ways,
    by_dec (dec_words (rowWays read_ways) h) (twice (λ w. ap rowWays (sym (same_ways w)) ∙ w.1) k),
    by_dec (dec_ways b.parts b.eqs b.rules read_ways)
        (twice (λ w. subst (Ways b.parts b.eqs b.rules) (same_ways w) w.2) k),
  )

pub stable_settles : (s h : List ℕ) → Stable (JudgedSays s h Settles)
stable_settles s h k =
    let b = book_of s in
    let reads = stable_reads s b (twice (λ j. subst (Reads s) (sym (the_book s j.0 j.2)) j.2) k) in
    let by = twice (λ j. settles_by s h j b reads) k in
    let down = stable_down b (twice (λ t. t.down) by) in
    let one = stable_one b reads.fine down (twice (λ t. t.one) by) in
    let less = stable_less b reads.fine down one (twice (λ t. t.less) by) in
    let w = stable_shown b h (twice (λ t. t.ways) by) in
    (b, w.0, reads, down, one, less, w.1, w.2)
