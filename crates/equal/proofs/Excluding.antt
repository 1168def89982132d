-- A book that settles has no other answer.
use Rattle.std.proofs.Common.{◌≡◌, ℕ, List, refl, subst}
use Rattle.rewriting.specs.Terms.{Term}
use Rattle.rewriting.specs.Order.{rank, AllDown}
use Rattle.rewriting.specs.Books.{Book, OneEnd, NoLess}
use Rattle.rewriting.specs.Theorems.{IsSettled}
use Rattle.rewriting.specs.Ways.{Ways}
use Rattle.rewriting.proofs.Settling.{settled}
use Rattle.rewriting.proofs.Waying.{ways_equal}
use Rattle.books.specs.Rows.{Reads, rowWays}
use Rattle.books.proofs.Unique.{one_book}
use Rattle.equal.specs.declared.types.Judged.{Judged}
use Rattle.equal.specs.declared.types.Judged.TheVariants.{Settles, Up, Apart, Lost, Stray, NoBook, Room, Few}
use Rattle.equal.specs.Promises.{JudgedSays}

-- what it is for the book b to settle its equations
pub record SettlesBy (b : Book) (h : List ℕ) : Type 0 where
  pub down : AllDown (rank b.ranks) b.rules
  pub one : OneEnd b
  pub less : NoLess b
  pub ways : (ws : List (List Term)) × (rowWays ws ≡ h) × Ways b.parts b.eqs b.rules ws

module _ (s h : List ℕ) where
  pub settles_by : JudgedSays s h Settles → (b : Book) → Reads s b → SettlesBy b h
  settles_by (c, ws, reads, down, one, less, written, ways) b r =
      subst (λ (d : Book). SettlesBy d h) (one_book s c b reads r)
      (record { down = down; one = one; less = less; ways = (ws, written, ways) })

  pub is_settled : JudgedSays s h Settles → (b : Book) → Reads s b → IsSettled b
  is_settled said b r =
      let k = settles_by said b r in
      settled b r.fine k.down k.one k.less (ways_equal b.parts b.eqs b.rules k.ways.0 k.ways.2)

  pub excludes : (r : Judged) → (r ≡ Settles → ⊥) → (r ≡ Room → ⊥) → (r ≡ Few → ⊥) → JudgedSays s h r → JudgedSays s h Settles → ⊥
  excludes Settles other room few said settles = other refl
  excludes (Up i) other room few (b, r, reads, has, up, before) settles = up ((settles_by settles b reads).down i r has)
  excludes Apart other room few (b, reads, down, apart) settles = apart (settles_by settles b reads).one
  excludes (Lost i) other room few (b, e, reads, down, one, has, lost, before) settles = lost ((settles_by settles b reads).less i e has)
  excludes Stray other room few (b, reads, down, one, less, none) settles =
      let k = (settles_by settles b reads).ways in none k.0 k.1 k.2
  excludes NoBook other room few none settles = none settles.0 settles.2
  excludes Room other room few said settles = room refl
  excludes Few other room few said settles = few refl
