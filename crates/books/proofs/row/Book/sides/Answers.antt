-- The sides follow each other within the words.
use Rattle.std.proofs.Common.{arith, ap₂, ◌-◌, take, drop, ℕ}
use Rattle.books.proofs.Bookish.{follow}
use Rattle.books.proofs.row.Book.sides.Goals as goal

pub offset_bounds-self-left : goal.offset_bounds-self-left
offset_bounds-self-left c =
    let f = follow c.args.self.now c.args.k c.requires in omega (arith, f.left, f.right, f.within)

pub slice_bounds-result-count : goal.slice_bounds-result-count
slice_bounds-result-count c = let f = follow c.args.self.now c.args.k c.requires in omega (arith, f.left)

pub slice_bounds-result-start : goal.slice_bounds-result-start
slice_bounds-result-start c = let f = follow c.args.self.now c.args.k c.requires in omega (arith, f.left)

pub slice_bounds-result-end : goal.slice_bounds-result-end
slice_bounds-result-end c = let f = follow c.args.self.now c.args.k c.requires in omega (arith, f.right, f.within)

pub offset_bounds-self-right : goal.offset_bounds-self-right
offset_bounds-self-right c = let f = follow c.args.self.now c.args.k c.requires in omega (arith, f.right, f.within)

pub slice_bounds-result-count-2 : goal.slice_bounds-result-count-2
slice_bounds-result-count-2 c = let f = follow c.args.self.now c.args.k c.requires in omega (arith, f.right)

pub slice_bounds-result-start-2 : goal.slice_bounds-result-start-2
slice_bounds-result-start-2 c = let f = follow c.args.self.now c.args.k c.requires in omega (arith, f.right)

pub slice_bounds-result-end-2 : goal.slice_bounds-result-end-2
slice_bounds-result-end-2 c = let f = follow c.args.self.now c.args.k c.requires in omega (arith, f.within)

pub returns : goal.returns
returns c =
    let ws = c.args.self.now.words.now in
    record {
      left = ap₂ (λ (a m : ℕ). take (m - a) (drop a ws)) c.start-left.ensures c.start-right.ensures;
      right = ap₂ (λ (m z : ℕ). take (z - m) (drop m ws)) c.start-right.ensures c.start-end.ensures;
    }
