-- What is known of a book that was judged is given back by the bare fact that it is so.
use Rattle.std.proofs.Common.{◌≡◌, ◌≢◌, ℕ, ◌≤◌, List, sym, subst, subst₂}
use mathlib.Core.HLevel.{⊥_prop}
use mathlib.Core.Logic.{∥∥₁_elim, ∥∥₁_map}
use native.Mathlib.Decide.{ℕ_discrete, dec_le, dec_lt}
use Rattle.rewriting.specs.Order.{rank, AllDown}
use Rattle.rewriting.specs.Books.{Book as Told}
use Rattle.rewriting.proofs.Terminating.{down_letters}
use Rattle.books.specs.Reading.{book_of}
use Rattle.books.specs.Rows.{Reads}
use Rattle.books.specs.Books.{told}
use Rattle.books.proofs.Unique.{the_book}
use Rattle.order.proofs.Descent.{rules_down}
use Rattle.engine.specs.declared.work.Work.{Work}
use Rattle.engine.specs.Meeting.{Ample, most_parts}
use Rattle.engine.proofs.Keeping.{honest_again}
use Rattle.equal.specs.declared.types.Judged.{Judged}
use Rattle.equal.specs.declared.types.Judged.TheVariants as judged
use Rattle.equal.specs.declared.settled_book.Settled.{Settled}
use Rattle.equal.specs.declared.finding.Comparer.{Comparer}
use Rattle.equal.specs.declared.finding.Finding.{Finding}
use Rattle.equal.specs.declared.finding.Finding.TheVariants as finding
use Rattle.equal.specs.declared.session.Session.{Session}
use Rattle.equal.specs.declared.types.Told.{Told as Answer}
use Rattle.equal.specs.Promises.{JudgedSays, JudgedPost, Large, ToldPost}
use Rattle.equal.specs.Sessions.{SettledSays, RefusedSays, FindingSays}
use Rattle.equal.specs.SessionRows.{SessionOn}
use Rattle.equal.proofs.Stable.{Stable, by_dec, twice, dec_words, stable_reads}
use Rattle.equal.proofs.Deciding.{stable_down, stable_settles}
use Rattle.equal.proofs.Excluding.{excludes}
use Rattle.equal.proofs.Outgrowing.{dec_large}

-- the bare fact, by two negations
bare : {A : Type 0} → ∥ A ∥₁ → (A → ⊥) → ⊥
bare h n = ∥∥₁_elim h ⊥_prop n

stable_le : (m n : ℕ) → Stable (m ≤ n)
stable_le m n = by_dec (dec_le m n)

stable_ample : (n : ℕ) (v : Work) → Stable (Ample n v)
stable_ample n v h = record {
  slots = stable_le _ _ (twice (λ a. a.slots) h);
  cells = stable_le _ _ (twice (λ a. a.cells) h);
  words = stable_le _ _ (twice (λ a. a.words) h);
}

module _ {s h : List ℕ} {w : ℕ} {k : Settled} {v : Work} where
  settled_by : ∥ SettledSays s h w k v ∥₁ → SettledSays s h w k v
  settled_by found =
      let b = told k.rules.book in record {
        book = by_dec (dec_words k.rules.book.words.now s) (twice (λ f. f.book) (bare found));
        ways = by_dec (dec_words k.ways.now h) (twice (λ f. f.ways) (bare found));
        serves = record {
          honest = honest_again b.rules (down_letters (rank b.ranks) b.rules (rules_down k.rules)) v.store
              (∥∥₁_map found (λ f. f.serves.honest));
          none = by_dec (ℕ_discrete v.roots.top 0) (twice (λ f. f.serves.none) (bare found));
        };
        ample = stable_ample (most_parts w) v (twice (λ f. f.ample) (bare found));
      }

  -- that it settles is a fact about each such book
  pub settles_again : SettledSays s h w k v → JudgedSays s h judged.Settles
  settles_again known = subst₂ (λ (t g : List ℕ). JudgedSays t g judged.Settles) known.book known.ways
      (stable_settles k.rules.book.words.now k.ways.now k.settles)

module _ (s h : List ℕ) (w : ℕ) where
  -- that judging wants room, and why
  abbrev Wanting : Type 0
  Wanting = JudgedSays s h judged.Room × ((b : Told) → Reads s b → Large b w)

  stable_wanting : Stable Wanting
  stable_wanting n = ((b, reads, down), λ c r. subst (λ (d : Told). Large d w) (the_book s c r) large)
    where
      b : Told
      b = book_of s

      reads : Reads s b
      reads = stable_reads s b (twice (λ f. subst (Reads s) (sym (the_book s f.0.0 f.0.1)) f.0.1) n)

      down : AllDown (rank b.ranks) b.rules
      down = stable_down b (twice (λ f. subst (λ (d : Told). AllDown (rank d.ranks) d.rules) (sym (the_book s f.0.0 f.0.1)) f.0.2) n)

      large : Large b w
      large = by_dec (dec_large b reads.fine down w) (twice (λ f. f.1 b reads) n)

module _ {s h : List ℕ} {w : ℕ} where
  refused_by : {j : Judged} → ∥ RefusedSays s h w j ∥₁ → RefusedSays s h w j
  refused_by found = record {
    other = λ e. bare found (λ f. f.other e);
    few = λ e. by_dec (dec_lt w _) (twice (λ f. f.few e) (bare found));
    room = λ e. stable_wanting s h w (twice (λ f. f.room e) (bare found));
    excluded = λ few room settles. bare found (λ f. f.excluded few room settles);
  }

  pub settled_again : {f : Finding} {c : Comparer} → ∥ FindingSays s h w f ∥₁ → f ≡ finding.Settles c → SettledSays s h w c.settled c.work
  settled_again found e = settled_by (subst (λ (f : Finding). ∥ FindingSays s h w f ∥₁) e found)

  pub refused_again : {f : Finding} {j : Judged} → ∥ FindingSays s h w f ∥₁ → f ≡ finding.Refused j → RefusedSays s h w j
  refused_again found e = refused_by (subst (λ (f : Finding). ∥ FindingSays s h w f ∥₁) e found)

  -- what is known of a book that does not settle, by what judging says of it
  pub refused : (j : Judged) → (j ≢ judged.Settles) → JudgedPost s h w j → RefusedSays s h w j
  refused j other p = record {
    other = other;
    few = λ e. p.few.1 e;
    room = λ e. (subst (JudgedSays s h) e p.says, p.room e);
    excluded = λ few room. excludes s h j other room few p.says;
  }

-- what is promised for the rows that a session has is promised for those that it is on
pub told_on : {k : Session} {s h x y : List ℕ} {w : ℕ} {r : Answer} → SessionOn k s h w → ToldPost k.book.now k.ways.now x y k.lent r →
    ToldPost s h x y w r
told_on {k} {s} {h} {x} {y} {r = r} on p = subst (λ (n : ℕ). ToldPost s h x y n r) on.lent
    (subst₂ (λ (t g : List ℕ). ToldPost t g x y k.lent r) on.book on.ways p)
