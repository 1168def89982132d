-- The three parts of the row are copied one behind the other.
use Rattle.std.proofs.Common.{◌≡◌, ℕ, ◌+◌, ◌≤◌, List, [], ◌∷◌, ◌++◌, length, take, drop, refl, ap, ◌∙◌, arith}
use Rattle.std.proofs.Common.{append_assoc, length-append, length-take, length-drop, length-take-le}
use Rattle.std.proofs.lemmas.List.{take_at}
use Rattle.std.proofs.lemmas.Slice.{take-put_mid, between_to_end}
use borrow.Rule.Slice.PartMut.{put_mid}
use Rattle.overlaps.proofs.overlap.with_hole.Goals as goal

-- words that are written over others: first from the beginning up to a, then two, then some
module _ (xs vs ys zs : List ℕ) (a k m len : ℕ) (front : length xs ≡ a) (two : length ys ≡ 2) (all : len ≡ a + 2 + length zs) where
  abbrev twice : List ℕ
  twice = put_mid a k (xs ++ vs) ys

  twice_is : take (a + 2) twice ≡ xs ++ ys
  twice_is = take-put_mid a k (xs ++ vs) ys (a + 2) (omega arith) (omega (arith, length-append xs vs))
      ∙ ap (λ (us : List ℕ). us ++ ys) (take_at xs vs a front)

  twice_long : a + 2 ≤ length twice
  twice_long = omega (arith, length-take (a + 2) twice, ap length twice_is, length-append xs ys)

  thrice_is : take len (put_mid (a + 2) m twice zs) ≡ xs ++ (ys ++ zs)
  thrice_is = take-put_mid (a + 2) m twice zs len all twice_long
      ∙ (ap (λ (us : List ℕ). us ++ zs) twice_is ∙ append_assoc xs ys zs)

  thrice_long : len ≤ length (put_mid (a + 2) m twice zs)
  thrice_long = omega (
    arith,
    length-take len (put_mid (a + 2) m twice zs),
    ap length thrice_is,
    length-append xs (ys ++ zs),
    length-append ys zs,
  )

pub returns : goal.returns
returns c =
    let xs = c.copy_from_slice.new.self in let ys = c.copy_from_slice-2.new.self in let zs = c.copy_from_slice-3.new.self in
    let ws = c.args.row.now in
    let front : xs ≡ take c.args.from ws = c.copy_from_slice.ensures.after in
    let middle : ys ≡ 0 ∷ 16 ∷ [] = c.copy_from_slice-2.ensures.after ∙ c.words.ensures in
    let back : zs ≡ drop c.args.to ws = c.copy_from_slice-3.ensures.after ∙ between_to_end ws c.args.to (length ws) (omega arith) in
    let fl : length xs ≡ c.args.from = ap length front ∙ length-take-le c.args.from ws (omega arith) in
    let ml : length ys ≡ 2 = ap length middle in
    let bl = ap length back ∙ length-drop c.args.to ws in
    record {
      short = thrice_long xs _ ys zs c.args.from _ _ _ fl ml (omega (arith, bl));
      is = thrice_is xs _ ys zs c.args.from _ _ _ fl ml (omega (arith, bl)) ∙ rw (front, middle, back) refl;
    }
