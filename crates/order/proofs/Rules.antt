-- A rule's sides in the words that are compared.
use Rattle.std.proofs.Common.{◌≡◌, ℕ, ◌<◌, ◌≤◌, Bool, List, [], length, sym, ◌∙◌, subst, append-nil, arith}
use mathlib.Core.Option.{some}
use Rattle.rewriting.specs.Terms.{Term, Ok}
use Rattle.rewriting.specs.Rules.{Eq}
use Rattle.rewriting.specs.Order.{rank, Greater, AllDown}
use Rattle.rewriting.specs.Answers.{Tells}
use Rattle.books.specs.Rows.{row}
use Rattle.books.specs.Books.{told, rule_in, sound_book_in}
use Rattle.books.specs.declared.row.Book.{Book}
use Rattle.books.proofs.Elements.{nth_below}
use Rattle.books.proofs.Bookish.{is_rule, rule_sides}
use Rattle.order.specs.Comparing.{Stands}
use Rattle.order.specs.Downward.{GoesDown, DownBefore}

module _ (k : Book) where
  -- all rules go down if those before the last number do
  pub all_down : (n : ℕ) → k.layout.rules ≤ n → DownBefore k n → AllDown (rank (told k).ranks) (told k).rules
  all_down n h down i r e =
      let low = nth_below (told k).rules i r e in
      let d : some (rule_in k i) ≡ some r = sym (is_rule k (sound_book_in k) i low) ∙ e in
      let q : rule_in k i ≡ r = cc in
      subst (λ (x : Eq). Greater (rank (told k).ranks) x.left x.right) q (down i (omega (arith, k.laid.rules)))

  -- what is told of a rule's sides is told of the rule
  module _ (i : ℕ) (low : i < length (told k).rules) (ls rs ps os : List ℕ) (left : ls ≡ row (rule_in k i).left)
      (right : rs ≡ row (rule_in k i).right) (parts : ps ≡ (told k).parts) (ranks : os ≡ (told k).ranks) where
    side_stands : (ws : List ℕ) (t : Term) → ws ≡ row t → Ok (told k).parts t → Stands ps ws 0 t
    side_stands ws t e o = record {
      over = subst (λ (ps : List ℕ). Ok ps t) (sym parts) o;
      rest = [];
      written = e ∙ sym (append-nil (row t));
    }

    pub rule_told : (r : Bool) → ((t u : Term) → Stands ps ls 0 t → Stands ps rs 0 u → Tells r (Greater (rank os) t u)) →
        Tells r (GoesDown k i)
    rule_told r h =
        let sides = rule_sides k (sound_book_in k) i low in
        subst (λ (os : List ℕ). Tells r (Greater (rank os) (rule_in k i).left (rule_in k i).right)) ranks
        (h (rule_in k i).left (rule_in k i).right (side_stands ls (rule_in k i).left left sides.left)
        (side_stands rs (rule_in k i).right right sides.right))
