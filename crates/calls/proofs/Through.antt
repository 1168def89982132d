-- From a term's row to that of its normal form.
use Rattle.std.proofs.Common.{◌≡◌, ℕ, ◌+◌, ◌-◌, ◌*◌, ◌<◌, ◌≤◌, List, [], ◌∷◌, length, Some, Ok, Err, Result, sym, ap, ◌∙◌}
use Rattle.std.proofs.Common.{subst, arith}
use native.Mathlib.Decide.{dec_lt}
use Rattle.rewriting.specs.Terms.{Term, size, Fits, SmallLetter}
use Rattle.rewriting.specs.Rules.{Steps, stay, Done}
use Rattle.rewriting.specs.Machine.{whole}
use Rattle.rewriting.specs.Different.{different, listed}
use Rattle.rewriting.proofs.Different.{different_size}
use Rattle.rewriting.specs.Order.{rank, AllDown}
use Rattle.rewriting.proofs.Signature.{over_fits}
use Rattle.rewriting.specs.Books.{Book as Told}
use Rattle.books.specs.Rows.{Of}
use Rattle.books.specs.Layouts.{FewParts}
use Rattle.books.specs.Books.{told, sound_book_in}
use Rattle.books.specs.declared.row.Book.{Book}
use Rattle.books.proofs.Heads.{head_of}
use Rattle.books.proofs.Building.{book_parts}
use Rattle.books.proofs.Bookish.{is_rule}
use Rattle.store.specs.declared.types.Store.{Store}
use Rattle.store.specs.declared.types.Roots.{Roots}
use Rattle.store.specs.declared.types.Full.{Full}
use Rattle.store.specs.declared.types.Full.TheVariants.{NoSlot, NoRoot}
use Rattle.store.specs.declared.types.Short.{Short}
use Rattle.store.specs.declared.types.Short.TheVariants.{NoWord, NoCell}
use Rattle.store.specs.Stores.{held}
use Rattle.store.specs.Transfers.{RowOf, Read, WrittenOrShort}
use Rattle.order.specs.declared.terminating.Terminating.{Terminating}
use Rattle.order.specs.Downward.{GoesDown, FirstUp}
use Rattle.order.specs.Terminating.{KnownOrUp}
use Rattle.engine.specs.declared.types.NoRoom.{NoRoom}
use Rattle.engine.specs.declared.work.Work.{Work}
use Rattle.engine.specs.Normal.{Startable, Normalized}
use Rattle.engine.specs.Spacing.{Wanting, few_slots, few_words, few_cells}
use Rattle.engine.specs.Meeting.{most_parts, Ample}
use Rattle.std.specs.Result.{MatchResult, IsErrAnd}
use Rattle.calls.specs.declared.types.Refusal.{Refusal}
use Rattle.calls.specs.declared.types.Refusal.TheVariants.{NoBook, Up, NoTerm, Room, Long, Few}
use Rattle.calls.specs.Calls.{Answer, NormalForm, Outgrown, NormalAnswers, WordsAnswer, refusal_of}

-- what a term of a row, or one that it comes to, is too large for
module _ (b : Told) (ts : List ℕ) (t : Term) (of : Of b.parts ts t) (n : ℕ) where
  outgrown : (u : Term) → Steps b.rules t u → n < size u → Outgrown b ts n
  outgrown u s l = record { term = t; of = of; large = u; steps = s; more = l }

  by_different : (u : Term) → Steps b.rules t u → n < different (u ∷ []) → Outgrown b ts n
  by_different u s l = outgrown u s (omega (arith, different_size u))

  pub unread : (w : Work) (c : Store) (r : Roots) → w.roots.top ≡ 0 → Ample n w → (x : Full) →
      Read w.store w.roots t c r (Err x) → Outgrown b ts n
  unread w c r bare m NoSlot h =
      let e = ap (λ (j : ℕ). different (t ∷ listed (λ k. held w.store w.roots k) j)) bare in
      by_different t stay (omega (arith, e, h.roots.1, m.slots))
  unread w c r bare m NoRoot h = outgrown t stay (at (dec_lt n (size t)))
    where
      at : Dec (n < size t) → n < size t
      at (yes l) = l
      at (no l) = absurd (h.roots.1 (omega (arith, m.cells)))

  pub wanting : (room words cells low : ℕ) (g : ℕ → Term) (u : Term) → low ≡ 0 → 2 * n + 640 ≤ room → 4 * n + 16 ≤ words →
      6 * n + 256 ≤ cells → Steps b.rules t u → Wanting room words cells low g u → Outgrown b ts n
  wanting room words cells low g u e a c d s (few_slots l) =
      let f = ap (λ (j : ℕ). different (u ∷ listed g j)) e in
      by_different u s (omega (arith, f))
  wanting room words cells low g u e a c d s (few_words l) = by_different u s (omega arith)
  wanting room words cells low g u e a c d s (few_cells l) = by_different u s (omega arith)

-- a rule that does not go down
pub up_not_down : (k : Book) (i : ℕ) → i < length (told k).rules → (GoesDown k i → ⊥) →
    AllDown (rank (told k).ranks) (told k).rules → ⊥
up_not_down k i l n d = n (d i _ (is_rule k (sound_book_in k) i l))

ok-err : {t : Terminating} {f : Refusal} → ◌≡◌ {A = Result Terminating Refusal} (Ok t) (Err f) → ⊥
ok-err e = let z : ◌≡◌ {A = ℕ} 0 1 = cc in omega arith

-- a book that is not known to go down has a first rule that does not
pub up_first : (b : Book) (x : Result Terminating ℕ) (y : Result Terminating Refusal) (f : Refusal) → KnownOrUp b x →
    MatchResult x (λ t. y ≡ Ok t) (λ i. IsErrAnd y (λ r. r ≡ Up i)) → y ≡ Err f → (i : ℕ) × (f ≡ Up i) × FirstUp b (Some i)
up_first b (Ok t) y f h e d = absurd (ok-err (sym e ∙ d))
up_first b (Err i) y f h e d = (i, subst (λ (o : Result Terminating Refusal). IsErrAnd o (λ r. r ≡ Up i)) d e, h)

-- the parts, as a program has them
module _ (k : Book) (ps : List ℕ) (e : ps ≡ (told k).parts) where
  pub few_parts : FewParts ps
  few_parts =
      let reads = (sound_book_in k).reads in
      subst FewParts (sym e) (book_parts k.words.now (told k) reads (told k).parts (sym (head_of k.words.now (told k) reads).parts))

  pub row_here : (ts : List ℕ) (t : Term) → Of (told k).parts ts t → RowOf ps ts t
  row_here ts t o = record {
    written = o.written;
    fits = subst (λ (qs : List ℕ). Fits qs t) (sym e) (over_fits (told k).parts SmallLetter t o.fits);
  }

-- what is known once a term's row is read into an empty store; x says whether there was space
pub record Loading (k : Book) (ts : List ℕ) (w : Work) (b : Store) (r : Roots) (x : Result (Unit {0}) Full) : Type 0 where
  pub term : Term
  pub of : Of (told k).parts ts term
  pub none : w.store.count ≡ 0
  pub bare : w.roots.top ≡ 0
  pub read : Read w.store w.roots term b r x

pub loading : (k : Book) (ts ps : List ℕ) (w : Work) (b : Store) (r : Roots) (x : Result (Unit {0}) Full) →
    ((t : Term) × Of (told k).parts ts t) →
    ((w.store.count ≡ 0) × (w.roots.top ≡ 0)) → ps ≡ (told k).parts →
    ((t : Term) → RowOf ps ts t → Read w.store w.roots t b r x) → Loading k ts w b r x
loading k ts ps w b r x (t, of) (none, bare) e reads =
    record { term = t; of = of; none = none; bare = bare; read = reads t (row_here k ps e ts t of) }

module _ (k : Book) (ts : List ℕ) (w : Work) (b : Store) (r : Roots) where
  pub not_read : (x : Full) → Loading k ts w b r (Err x) → (n : ℕ) → Ample n w → Outgrown (told k) ts n
  not_read x d n m = unread (told k) ts d.term d.of n w b r d.bare m x d.read

  module _ (d : Loading k ts w b r (Ok tt)) where
    -- with the term's row read
    abbrev loaded : Work
    loaded = record { store = b; roots = r; frames = w.frames }

    held_first : held b r 0 ≡ d.term
    held_first = ap (λ (j : ℕ). held b r j) (sym d.bare) ∙ d.read.roots.term

    top_one : r.top ≡ 1
    top_one = omega (arith, d.bare, d.read.roots.top)

    held_top : held b r (r.top - 1) ≡ d.term
    held_top = let z : r.top - 1 ≡ 0 = omega (arith, top_one) in ap (λ (j : ℕ). held b r j) z ∙ held_first

    pub startable : Startable k loaded
    startable = record {
      inside = d.read.roots.inside;
      some = omega (arith, top_one);
      fits = subst (Fits (told k).parts) (sym held_top) (over_fits (told k).parts SmallLetter d.term d.of.fits);
    }

    pub stopped : (v : Work) (e : NoRoom) → Normalized k loaded v (Err e) → (n : ℕ) → Ample n w → Outgrown (told k) ts n
    stopped v e x n m =
        let out = x.result.1 in
        let u = whole out.at_last in
        wanting (told k) ts d.term d.of n b.room (length w.frames.words.now) (length r.cells.now) (r.top - 1) (λ j. held b r j) u
        (omega (arith, top_one)) (omega (arith, m.slots, d.read.room)) m.words (omega (arith, m.cells, d.read.roots.long))
        (subst (λ (x : Term). Steps (told k).rules x u) held_top out.steps) out.wanting

    module _ (v : Work) (x : Normalized k loaded v (Ok tt)) where
      pub cells_long : (n : ℕ) → Ample n w → 6 * n + 256 ≤ length v.roots.cells.now
      cells_long n m = omega (arith, m.cells, d.read.roots.long, x.cells)

      pub one_root : v.roots.top ≡ 1
      one_root = x.result.0 ∙ top_one

      pub normal : NormalForm (told k) ts (held v.store v.roots 0)
      normal =
          let z : r.top - 1 ≡ 0 = omega (arith, top_one) in
          let s = subst (λ (y : Term). Steps (told k).rules y (held v.store v.roots (r.top - 1))) held_top x.result.1.steps in
          record {
            term = d.term;
            of = d.of;
            steps = subst (λ (j : ℕ). Steps (told k).rules d.term (held v.store v.roots j)) z s;
            done = subst (λ (j : ℕ). Done (told k).rules (held v.store v.roots j)) z x.result.1.done;
          }

-- a row that can't be written
pub refused : (b : Told) (ts vs ws : List ℕ) (q : Roots) (v : Term) (n : ℕ) → q.top ≡ 1 → 6 * n + 256 ≤ length q.cells.now →
    NormalForm b ts v → (x : Short) → WrittenOrShort q v vs ws (Err x) → NormalAnswers b ts n (length vs) ws (Err (refusal_of x))
refused b ts vs ws q v n one long f NoWord (_, h) = (v, f, h)
refused b ts vs ws q v n one long f NoCell (_, h) =
    record { term = f.term; of = f.of; large = v; steps = f.steps; more = at (dec_lt n (size v)) }
  where
    at : Dec (n < size v) → n < size v
    at (yes l) = l
    at (no l) = absurd (h (omega arith))

-- the same by the number of work words
pub words_answer : (b : Told) (ts : List ℕ) (w m : ℕ) (ws : List ℕ) (x : Answer) → NormalAnswers b ts (most_parts w) m ws x →
    WordsAnswer b ts w m ws x
words_answer b ts w m ws (Ok j) h = h
words_answer b ts w m ws (Err NoBook) h = h
words_answer b ts w m ws (Err (Up i)) h = h
words_answer b ts w m ws (Err NoTerm) h = h
words_answer b ts w m ws (Err Room) h = h
words_answer b ts w m ws (Err Long) h = h
words_answer b ts w m ws (Err Few) h = absurd h
