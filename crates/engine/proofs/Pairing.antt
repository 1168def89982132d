-- Two rows read, and their terms compared.
use Rattle.std.proofs.Common.{◌≡◌, ℕ, ◌+◌, ◌*◌, ◌≤◌, Bool, List, [], ◌∷◌, length, Ok, Err, Result, sym}
use Rattle.std.proofs.Common.{refl, ap, ◌∙◌, subst, arith, IsErr}
use Rattle.std.proofs.lemmas.Bool.{false≢true}
use Rattle.rewriting.specs.Terms.{Term, size, Fits, SmallLetter}
use Rattle.rewriting.specs.Answers.{Tells}
use Rattle.rewriting.specs.Different.{different, listed}
use Rattle.rewriting.proofs.Signature.{over_fits}
use Rattle.rewriting.proofs.Different.{different_size}
use Rattle.books.specs.declared.row.Book.{Book}
use Rattle.books.specs.Books.{told}
use Rattle.books.specs.Rows.{Of}
use Rattle.books.specs.Layouts.{FewParts}
use Rattle.books.proofs.Heads.{head_of}
use Rattle.books.proofs.Building.{book_parts}
use Rattle.store.specs.declared.types.Store.{Store}
use Rattle.store.specs.declared.types.Roots.{Roots}
use Rattle.store.specs.declared.types.Full.{Full}
use Rattle.store.specs.declared.types.Full.TheVariants.{NoSlot, NoRoot}
use Rattle.store.specs.Stores.{held, Inside, RootsKept}
use Rattle.store.specs.Transfers.{RowOf, Read}
use Rattle.engine.specs.declared.types.NoRoom.{NoRoom}
use Rattle.engine.specs.declared.work.Work.{Work}
use Rattle.engine.specs.Frames.{FramesFit}
use Rattle.engine.specs.Normal.{root_term}
use Rattle.engine.specs.Meeting.{Ample, TwoRoots, Compares}
use Rattle.engine.specs.Reducers.{Idle}
use Rattle.engine.specs.Pairs.{RowsOf, TwoRows, RowsRead}
use Rattle.engine.proofs.Honesty.{honest_carried}
use Rattle.engine.proofs.Comparing.{both_parts}

-- the signature of a book
module _ (k : Book) (ps : List ℕ) (e : ps ≡ (told k).parts) where
  pub few : FewParts ps
  few = book_parts k.words.now (told k) k.reads ps (e ∙ sym (head_of k.words.now (told k) k.reads).parts)

  pub row_here : (ws : List ℕ) (t : Term) → Of (told k).parts ws t → RowOf ps ws t
  row_here ws t o = record {
    written = o.written;
    fits = subst (λ (qs : List ℕ). Fits qs t) (sym e) (over_fits (told k).parts SmallLetter t o.fits);
  }

  told_of : (ws : List ℕ) (t : Term) → Of ps ws t → Of (told k).parts ws t
  told_of ws t o = subst (λ (qs : List ℕ). Of qs ws t) e o

  of_told : (ws : List ℕ) (t : Term) → Of (told k).parts ws t → Of ps ws t
  of_told ws t o = subst (λ (qs : List ℕ). Of qs ws t) (sym e) o

  -- both are terms: the left one is, and the right one tells
  module _ (ls rs : List ℕ) (x : Bool) where
    pub left_is : ((t : Term) × Of ps ls t) → Tells x ((u : Term) × Of ps rs u) → Tells x (TwoRows k ls rs)
    left_is l h = record {
      holds = λ g. let r = h.holds g in
          (l.0, r.0, record { left = told_of ls l.0 l.1; right = told_of rs r.0 r.1 });
      fails = λ g w. h.fails g (w.1, of_told rs w.1 w.2.right);
    }

pub none_inside : (st : Store) (q : Roots) → q.top ≡ 0 → Inside st q
none_inside st q z = record { fits = omega (arith, z); low = λ k l. absurd (omega (arith, z, l)) }

-- a row that can't be read
module _ (a : Store) (q : Roots) (t : Term) (b : Store) (r : Roots) where
  kept_then : (f : Full) → Read a q t b r (Err f) → RootsKept a q b r
  kept_then NoSlot h = h.roots.0
  kept_then NoRoot h = h.roots.0

  too_large : (f : Full) → Read a q t b r (Err f) → (n : ℕ) → 2 * n + 640 ≤ a.room → 6 * n + 256 ≤ length q.cells.now →
      q.top ≤ 1 → size t ≤ n → different (t ∷ listed (λ i. held a q i) q.top) ≤ 2 * n → ⊥
  too_large NoSlot h n s c z l d = omega (arith, h.roots.1, s, d)
  too_large NoRoot h n s c z l d = h.roots.1 (omega (arith, c, z, l))

module _ (k : Book) (ps : List ℕ) (e : ps ≡ (told k).parts) (w : Work) (z : w.roots.top ≡ 0)
    (ls rs : List ℕ) (two : TwoRows k ls rs) (su : Store) (r : Roots) where
  abbrev with_one : Work
  with_one = record { store = su; roots = r; frames = w.frames }

  pub no_first : {f : Full} → ((t : Term) → RowOf ps ls t → Read w.store w.roots t su r (Err f)) →
      (x : Result (Unit {0}) NoRoom) → IsErr x → RowsRead k w ls rs with_one x
  no_first h (Ok _) g = absurd (false≢true g)
  no_first {f} h (Err _) g =
      let one = h two.0 (row_here k ps e ls two.0 two.2.left) in
      record {
        sound = one.sound;
        honest = λ es g. honest_carried es w.store su g one.carried;
        room = one.room;
        cells = (kept_then w.store w.roots two.0 su r f one).long;
        frames = refl;
        result = λ t u o m a l l2. too_large w.store w.roots t su r f (h t (row_here k ps e ls t o.left)) m a.slots a.cells
            (omega (arith, z)) l
            (subst (λ (i : ℕ). different (t ∷ listed (root_term w) i) ≤ 2 * m) (sym z) (omega (arith, different_size t, l)));
      }

  module _ (first : (t : Term) → RowOf ps ls t → Read w.store w.roots t su r (Ok tt)) where
    one_top : r.top ≡ 1
    one_top = omega (arith, (first two.0 (row_here k ps e ls two.0 two.2.left)).roots.top, z)

    one_held : (t : Term) → Of (told k).parts ls t → held su r 0 ≡ t
    one_held t o = subst (λ (i : ℕ). held su r i ≡ t) z (first t (row_here k ps e ls t o)).roots.term

    one_read : Read w.store w.roots two.0 su r (Ok tt)
    one_read = first two.0 (row_here k ps e ls two.0 two.2.left)

    -- the right row is next
    pub next_inside : Inside su r
    next_inside = one_read.roots.inside

    module _ (sv : Store) (v : Roots) where
      abbrev with_two : Work
      with_two = record { store = sv; roots = v; frames = w.frames }

      pub no_second : {f : Full} → ((u : Term) → RowOf ps rs u → Read su r u sv v (Err f)) →
          (x : Result (Unit {0}) NoRoom) → IsErr x → RowsRead k w ls rs with_two x
      no_second h (Ok _) g = absurd (false≢true g)
      no_second {f} h (Err _) g =
          let one = h two.1 (row_here k ps e rs two.1 two.2.right) in
          record {
            sound = one.sound;
            honest = λ es g. honest_carried es su sv (honest_carried es w.store su g one_read.carried) one.carried;
            room = one.room ∙ one_read.room;
            cells = (kept_then su r two.1 sv v f one).long ∙ one_read.roots.long;
            frames = refl;
            result = λ t u w m a l o. too_large su r u sv v f (h u (row_here k ps e rs u w.right)) m
                (omega (arith, a.slots, one_read.room)) (omega (arith, a.cells, one_read.roots.long)) (omega (arith, one_top)) o
                (subst (λ (i : ℕ). different (u ∷ listed (λ j. held su r j) i) ≤ 2 * m) (sym one_top)
                (subst (λ (x : Term). different (u ∷ x ∷ []) ≤ 2 * m) (sym (one_held t w.left))
                (omega (arith, both_parts u t, different_size t, different_size u, l, o))));
          }

      pub both_read : ((u : Term) → RowOf ps rs u → Read su r u sv v (Ok tt)) → RowsRead k w ls rs with_two (Ok tt)
      both_read h =
          let one = h two.1 (row_here k ps e rs two.1 two.2.right) in
          record {
            sound = one.sound;
            honest = λ es g. honest_carried es su sv (honest_carried es w.store su g one_read.carried) one.carried;
            room = one.room ∙ one_read.room;
            cells = one.roots.long ∙ one_read.roots.long;
            frames = refl;
            result = λ t u w. (
              omega (arith, one.roots.top, one_top),
              one.roots.inside,
              one.roots.terms 0 (omega (arith, one_top)) ∙ one_held t w.left,
              subst (λ (i : ℕ). held sv v i ≡ u) one_top (h u (row_here k ps e rs u w.right)).roots.term,
            );
          }

-- what is compared then
module _ (b : Book) (w : Work) (ls rs : List ℕ) (two : TwoRows b ls rs) (v : Work) where
  module _ (h : RowsRead b w ls rs v (Ok tt)) where
    pub two_here : TwoRoots b v
    two_here =
        let g = h.result two.0 two.1 two.2 in
        record {
          inside = g.1;
          two = g.0;
          first = subst (Fits (told b).parts) (sym g.2) (over_fits (told b).parts SmallLetter two.0 two.2.left.fits);
          second = subst (Fits (told b).parts) (sym g.3) (over_fits (told b).parts SmallLetter two.1 two.2.right.fits);
        }

    ample_here : (n : ℕ) → Ample n w → Ample n v
    ample_here n a = record {
      slots = omega (arith, a.slots, h.room);
      cells = omega (arith, a.cells, h.cells);
      words = omega (arith, a.words, ap (λ (fr : _). length fr.words.now) h.frames);
    }

    module _ (u : Work) (x : Result Bool NoRoom) where
      pub idle_on : Idle v u → Idle w u
      idle_on i = record {
        room = i.room ∙ h.room;
        cells = i.cells ∙ h.cells;
        words = i.words ∙ ap (λ (fr : _). length fr.words.now) h.frames;
        frames = λ f. i.frames (subst FramesFit (sym h.frames) f);
        none = i.none;
      }

      pub compared_on : ((n : ℕ) → Ample n v → Compares b n (root_term v 0) (root_term v 1) x) →
          (t u : Term) → RowsOf b ls rs t u → (n : ℕ) → Ample n w → size t ≤ n → size u ≤ n → Compares b n t u x
      compared_on f t u o n a l m =
          let g = h.result t u o in
          subst (λ (y : Term). Compares b n y u x) g.2
          (subst (λ (y : Term). Compares b n (root_term v 0) y x) g.3 (f n (ample_here n a)))
