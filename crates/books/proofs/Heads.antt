-- The numbers at the start of a book's row.
use Rattle.std.proofs.Common.{◌≡◌, ℕ, suc, ◌+◌, ◌*◌, ◌<◌, ◌≤◌, List, ◌∷◌, ◌++◌, length, get_or, take, drop, sym, refl, ap, ◌∙◌, subst}
use Rattle.std.proofs.Common.{append_assoc, one-add, arith, length-append, take-append-drop, drop-cons, drop-drop, get_or-append-add}
use lib.Seq.{take-append_seam, drop-append_seam, drop-append-add}
use Rattle.rewriting.specs.Books.{Book}
use Rattle.books.specs.Rows.{Reads, rowEs, rowB}
use Rattle.books.specs.Reading.{signs_of, parts_of, ranks_of, eqs_of, rules_of, body_of}

-- what the words of a book say where
pub record Head (s : List ℕ) (b : Book) : Type 0 where
  pub signs : signs_of s ≡ length b.parts
  pub parts : parts_of s ≡ b.parts
  pub ranks : ranks_of s ≡ b.ranks
  pub eqs : eqs_of s ≡ length b.eqs
  pub rules : rules_of s ≡ length b.rules
  pub long : body_of s ≤ length s
  pub body : drop (body_of s) s ≡ rowEs b.eqs ++ rowEs b.rules

module _ (b : Book) (same : length b.ranks ≡ length b.parts) where
  n : ℕ
  n = length b.parts

  front : List ℕ
  front = length b.parts ∷ (b.parts ++ b.ranks)

  back : List ℕ
  back = length b.eqs ∷ length b.rules ∷ (rowEs b.eqs ++ rowEs b.rules)

  front_long : length front ≡ 1 + 2 * length b.parts
  unfolding front
  front_long = omega (arith, length-append b.parts b.ranks, same)

  front_back : rowB b ≡ front ++ back
  unfolding front back
  front_back = ap (λ (v : List ℕ). length b.parts ∷ v) (sym (append_assoc b.parts b.ranks _))

  at_front : (k : ℕ) → get_or (rowB b) (k + 1 + 2 * length b.parts) 0 ≡ get_or back k 0
  at_front k =
      let e : k + 1 + 2 * length b.parts ≡ length front + k = omega (arith, front_long) in
      ap (λ (i : ℕ). get_or (rowB b) i 0) e
      ∙ (ap (λ (v : List ℕ). get_or v (length front + k) 0) front_back ∙ get_or-append-add front back k 0)

  row_parts : take (length b.parts) (b.parts ++ (b.ranks ++ back)) ≡ b.parts
  row_parts = take-append_seam b.parts (b.ranks ++ back)

  row_ranks : take (length b.parts) (drop (1 + length b.parts) (rowB b)) ≡ b.ranks
  unfolding back
  row_ranks =
      ap (λ (k : ℕ). take (length b.parts) (drop k (rowB b))) (one-add (length b.parts))
      ∙ (ap (take (length b.parts)) (drop-append_seam b.parts (b.ranks ++ back))
      ∙ subst (λ (k : ℕ). take k (b.ranks ++ back) ≡ b.ranks) same (take-append_seam b.ranks back))

  row_body : drop (3 + 2 * length b.parts) (rowB b) ≡ rowEs b.eqs ++ rowEs b.rules
  unfolding back
  row_body =
      let e : 3 + 2 * length b.parts ≡ length front + 2 = omega (arith, front_long) in
      ap (λ (i : ℕ). drop i (rowB b)) e ∙ (ap (λ (v : List ℕ). drop (length front + 2) v) front_back ∙ drop-append-add front back 2)

  row_long : 3 + 2 * length b.parts ≤ length (rowB b)
  unfolding back
  row_long = omega (arith, front_long, ap length front_back, length-append front back)

  row_head : Head (rowB b) b
  unfolding back
  row_head = record {
    signs = refl;
    parts = row_parts;
    ranks = row_ranks;
    eqs = at_front 0;
    rules = at_front 1;
    long = row_long;
    body = row_body;
  }

pub head_of : (s : List ℕ) (b : Book) → Reads s b → Head s b
head_of s b r = subst (λ (v : List ℕ). Head v b) r.is (row_head b r.fine.ranked)

-- words that are long enough begin so, whatever they say
pub words_are : (s : List ℕ) → body_of s ≤ length s →
    s ≡ signs_of s ∷ (parts_of s ++ (ranks_of s ++ (eqs_of s ∷ rules_of s ∷ drop (body_of s) s)))
words_are s h =
    let k : ℕ = signs_of s in
    let a : 0 < length s = omega arith in
    let b : 1 + 2 * k < length s = omega arith in
    let c : 2 + 2 * k < length s = omega arith in
    let d : k + (1 + k) ≡ 1 + 2 * k = omega arith in
    let f : 1 + k + k ≡ 1 + 2 * k = omega arith in
    let g : suc (1 + 2 * k) ≡ 2 + 2 * k = omega arith in
    let i : suc (2 + 2 * k) ≡ 3 + 2 * k = omega arith in
    let tail : drop (1 + 2 * k) s ≡ eqs_of s ∷ rules_of s ∷ drop (body_of s) s =
    drop-cons s (1 + 2 * k) 0 b ∙ ap (λ (v : List ℕ). eqs_of s ∷ v)
    (ap (λ (j : ℕ). drop j s) g ∙ (drop-cons s (2 + 2 * k) 0 c ∙ ap (λ (j : ℕ). rules_of s ∷ drop j s) i)) in
    let ranks : drop (1 + k) s ≡ ranks_of s ++ drop (1 + 2 * k) s =
    sym (take-append-drop k (drop (1 + k) s)) ∙ ap (λ (v : List ℕ). ranks_of s ++ v)
    (drop-drop k (1 + k) s ∙ ap (λ (j : ℕ). drop j s) f) in
    let parts : drop 1 s ≡ parts_of s ++ drop (1 + k) s =
    sym (take-append-drop k (drop 1 s)) ∙ ap (λ (v : List ℕ). parts_of s ++ v) (drop-drop k 1 s) in
    drop-cons s 0 0 a ∙ ap (λ (v : List ℕ). k ∷ v)
    (parts ∙ ap (λ (v : List ℕ). parts_of s ++ v) (ranks ∙ ap (λ (v : List ℕ). ranks_of s ++ v) tail))
