-- From what was found of a book to what is said of its words.
use Rattle.std.proofs.Common.{◌≡◌, ℕ, List, length, Some, Ok, Err, Result, sym, refl, ◌∙◌, subst, arith}
use Rattle.std.specs.Result.{result_unwrap_or}
use Rattle.rewriting.specs.Rules.{Eq, Meet}
use Rattle.rewriting.specs.Order.{rank, Greater, AllDown}
use Rattle.rewriting.specs.Books.{Book as Told}
use Rattle.books.specs.declared.row.Book.{Book}
use Rattle.books.specs.Books.{told, sound_book_in, blank, rule_in, equation_in}
use Rattle.books.specs.Rows.{Reads}
use Rattle.books.proofs.Elements.{nth_is}
use Rattle.books.proofs.Bookish.{is_rule, is_equation}
use Rattle.books.proofs.Unique.{the_book}
use Rattle.order.specs.Downward.{FirstUp}
use Rattle.engine.specs.declared.types.NoRoom.{NoRoom}
use Rattle.engine.specs.declared.work.Work.{Work}
use Rattle.equal.specs.declared.types.Judged.{Judged}
use Rattle.equal.specs.declared.types.Judged.TheVariants.{Settles, Up, Apart, Lost, Stray, NoBook, Room, Few}
use Rattle.equal.specs.Promises.{JudgedSays}
use Rattle.equal.specs.Serving.{StillServes}
use Rattle.equal.specs.Judging.{AmpleWith, RulesSay, Growing, RoomFor, JudgedIn, or_room}

module _ (k : Book) (h : List ℕ) where
  -- the first rule that goes up
  pub says_up : (i : ℕ) → FirstUp k (Some i) → JudgedSays k.words.now h (Up i)
  says_up i (low, up, before) = (
    told k,
    rule_in k i,
    (sound_book_in k).reads,
    is_rule k (sound_book_in k) i low,
    up,
    λ j q l e.
        subst (λ (r : Eq). Greater (rank (told k).ranks) r.left r.right) (nth_is (told k).rules j q blank e) (before j l),
  )

  -- what is said of a book whose rules go down
  pub says : (n : ℕ) → AllDown (rank (told k).ranks) (told k).rules → (r : Judged) → RulesSay k h n r → JudgedSays k.words.now h r
  says n down Settles (one, less, (ws, written, ways)) = (told k, ws, (sound_book_in k).reads, down, one, less, written, ways)
  says n down (Up i) none = absurd none
  says n down Apart apart = (told k, (sound_book_in k).reads, down, apart)
  says n down (Lost i) (one, (low, lost, before)) = (
    told k,
    equation_in k i,
    (sound_book_in k).reads,
    down,
    one,
    is_equation k (sound_book_in k) i low,
    lost,
    λ j q l e.
        subst (λ (r : Eq). Meet (told k).rules r.left r.right) (nth_is (told k).eqs j q blank e) (before j l),
  )
  says n down Stray (one, less, none) = (told k, (sound_book_in k).reads, down, one, less, λ ws written ways. none (ws, written, ways))
  says n down NoBook none = absurd none
  says n down Room large = (told k, (sound_book_in k).reads, down)
  says n down Few none = absurd none

  -- the book is the one that the words say
  growing : (n : ℕ) → Growing (told k) n → (b : Told) → Reads k.words.now b → Growing b n
  growing n g b reads = subst (λ (c : Told). Growing c n) (the_book k.words.now b reads) g

  module _ (n : ℕ) (w v : Work) where
    up_here : (i : ℕ) → FirstUp k (Some i) → JudgedIn k.words.now h n w v (Up i)
    up_here i up = record { says = says_up i up; enough = λ e. cc; room = λ e. cc; serves = λ e. cc }

    down_here : AllDown (rank (told k).ranks) (told k).rules → StillServes k.words.now w v → (a : Judged) → RulesSay k h n a →
        JudgedIn k.words.now h n w v a
    down_here down serves a said = record {
      says = says n down a said;
      enough = λ e. subst (RulesSay k h n) e said;
      room = λ e. growing n (subst (RulesSay k h n) e said);
      serves = λ e. serves;
    }

ample_with : (k : Book) (h : List ℕ) (n : ℕ) (w : Work) → RoomFor k.words.now h n w →
    AmpleWith k (length h) n w
ample_with k h n w room = record {
  for_book = record { ample = room.ample; slots = room.slots; long = omega (arith, room.long) };
  long = room.long;
}

-- the answer, or that there is no room
room_or : (x : Result Judged NoRoom) → result_unwrap_or x Room ≡ or_room x
room_or (Ok j) = refl
room_or (Err e) = refl

-- a book that is read from the words s
module _ (k : Book) {s : List ℕ} (same : k.words.now ≡ s) (h : List ℕ) (n : ℕ) where
  pub judged_up : {w v : Work} {i : ℕ} → FirstUp k (Some i) → JudgedIn s h n w v (Up i)
  judged_up {w} {v} {i} up = subst (λ (ws : List ℕ). JudgedIn ws h n w v (Up i)) same (up_here k h n w v i up)

  pub judged_down : {w v : Work} {a : Judged} (x : Result Judged NoRoom) → AllDown (rank (told k).ranks) (told k).rules →
      StillServes k.words.now w v → ((n : ℕ) → AmpleWith k (length h) n w → RulesSay k h n (or_room x)) → RoomFor s h n w →
      a ≡ result_unwrap_or x Room → JudgedIn s h n w v a
  judged_down {w} {v} {a} x down serves said room e =
      let ample = ample_with k h n w (subst (λ (ws : List ℕ). RoomFor ws h n w) (sym same) room) in
      subst (λ (ws : List ℕ). JudgedIn ws h n w v a) same
      (down_here k h n w v down serves a (subst (RulesSay k h n) (sym (e ∙ room_or x)) (said n ample)))
