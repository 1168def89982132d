-- The least replacement at an overlap, and the two results.
use Rattle.std.proofs.Common.{◌≡◌, ℕ, ◌+◌, ◌-◌, ◌<◌, ◌≤◌, min, true, false, List, length, take, drop, Some, Option as Maybe, sym}
use Rattle.std.proofs.Common.{ap, ◌∙◌, subst, subst₂, ⊎_elim, arith}
use Rattle.rewriting.specs.Terms.{Term, letter, size, In, Over, Fits, SmallLetter}
use Rattle.rewriting.specs.Rules.{Eq, Part, renamed}
use Rattle.rewriting.specs.Overlaps.{fill}
use Rattle.rewriting.specs.Books.{Sides}
use Rattle.rewriting.proofs.Signature.{over_fits, over_letters, over_part}
use Rattle.books.specs.declared.row.Book.{Book}
use Rattle.books.specs.Rows.{row}
use Rattle.books.specs.Layouts.{FewParts}
use Rattle.books.specs.Books.{told, rule_in, sound_book_in}
use Rattle.books.proofs.Bookish.{rule_sides}
use Rattle.books.proofs.Building.{book_parts}
use Rattle.books.proofs.Heads.{head_of}
use Rattle.books.proofs.Glueing.{row_length}
use Rattle.store.specs.declared.types.Store.{Store}
use Rattle.store.specs.declared.types.Place.{Place}
use Rattle.store.specs.Stores.{Sound, Grown, term_in}
use Rattle.store.specs.Making.{Emptied}
use Rattle.store.proofs.Cases.{le_or_lt}
use Rattle.store.proofs.Placing.{grown_then}
use Rattle.engine.specs.declared.types.Bindings.{Bindings}
use Rattle.engine.specs.Matching.{put_in, AllInside, Bound}
use Rattle.engine.specs.Building.{Fillable, RowInstanceBuilt}
use Rattle.engine.specs.Running.{Honest}
use Rattle.engine.proofs.Builder.{signs_then}
use Rattle.unification.specs.Unifiers.{Ready, Unified, least_of}
use Rattle.overlaps.specs.declared.types.Overlap.{Overlap}
use Rattle.overlaps.specs.declared.types.Pair.{Pair}
use Rattle.overlaps.specs.Positions.{At, Stands, holed}
use Rattle.overlaps.specs.Pairs.{LettersMade, Shifted, HoleBound, AllGiven, Fresh, UnifierFound, ResultsBuilt, PairFound}
use Rattle.overlaps.proofs.Positions.{over_fill, over_more, size_fill, part_length, at_some, at_cut, at_holed}
use Rattle.overlaps.proofs.Lettering.{grown_inside, letters_inside, letters_grown, letters_put, shifted_inside, shifted_bound, renamed_put}
use Rattle.overlaps.proofs.Lettering.{shifted_put, hole_inside, hole_bound, hole_put}

pub min_is : (m : ℕ) → 512 ≤ m → min m 512 ≡ 512
min_is m l = omega arith

-- a row whose letters are below n, of which each is bound
module _ (b : Book) (ps : List ℕ) (ep : ps ≡ (told b).parts) where
  pub few_parts : FewParts ps
  few_parts =
      let r = (sound_book_in b).reads in
      book_parts b.words.now (told b) r ps (ep ∙ sym (head_of b.words.now (told b) r).parts)

  fillable : (n : ℕ) (t : Term) (ws : List ℕ) (u : Bindings) → n ≤ 32 → Over (λ x. x < n) (told b).parts t → size t ≤ 32 →
      ws ≡ row t → ((x : ℕ) → x < n → Bound u x) → Fillable ps ws u t
  fillable n t ws u l o s e h = record {
    row = record {
      written = sym e;
      fits = subst (λ (qs : List ℕ). Fits qs t) (sym ep) (over_fits (told b).parts (λ x. x < n) t o);
    };
    small = s;
    low = λ x i. let k = over_letters (told b).parts (λ x. x < n) t o x i in omega arith;
    bound = λ x i. h x (over_letters (told b).parts (λ x. x < n) t o x i);
  }

  -- of a rule's left and right side, of a part, and with a hole in place of a part
  module _ (i : ℕ) (low : i < length (told b).rules) (ws : List ℕ) where
    sides : Sides (told b).parts (rule_in b i)
    sides = rule_sides b (sound_book_in b) i low

    pub left_fillable : (u : Bindings) → ws ≡ row (rule_in b i).left → ((x : ℕ) → x < 16 → Bound u x) →
        Fillable ps ws u (rule_in b i).left
    left_fillable u e h = fillable 16 (rule_in b i).left ws u (omega arith) sides.left sides.left_size e h

    pub right_fillable : (u : Bindings) → ws ≡ row (rule_in b i).right → ((x : ℕ) → x < 16 → Bound u x) →
        Fillable ps ws u (rule_in b i).right
    right_fillable u e h = fillable 16 (rule_in b i).right ws u (omega arith) sides.right sides.right_size e h

    module _ (e : ws ≡ row (rule_in b i).left) {v : Term} (place : Part v (rule_in b i).left) (a z : ℕ) (at : At place a z) where
      part_size : size v ≤ 32
      part_size = omega (arith, part_length place ws e, ap length e, row_length (rule_in b i).left, sides.left_size)

      pub part_fillable : (u : Bindings) → ((x : ℕ) → x < 16 → Bound u x) → Fillable ps (take (z - a) (drop a ws)) u v
      part_fillable u h = fillable 16 v _ u (omega arith) (over_part (told b).parts SmallLetter place sides.left) part_size
          (at_cut place ws e a z at) h

      pub hole_fillable : (ds : List ℕ) (u : Bindings) → ds ≡ holed ws a z → ((x : ℕ) → x < 17 → Bound u x) →
          Fillable ps ds u (fill place letter (letter 16))
      hole_fillable ds u w h = fillable 17 (fill place letter (letter 16)) _ u (omega arith)
          (over_fill (λ x. x < 17) (told b).parts (letter 16) (omega arith) place
          (over_more SmallLetter (λ x. x < 17) (told b).parts (rule_in b i).left sides.left (λ x l. omega arith)))
          (omega (arith, size_fill place (letter 16), sides.left_size, at.to, at_some place ws e a z at))
          (w ∙ at_holed place ws e a z at) h

-- letters of sides
module _ (b : Book) (i : ℕ) (low : i < length (told b).rules) where
  pub left_letters : (x : ℕ) → In x (rule_in b i).left → x < 16
  left_letters = over_letters (told b).parts SmallLetter (rule_in b i).left (rule_sides b (sound_book_in b) i low).left

  pub right_letters : (x : ℕ) → In x (rule_in b i).right → x < 16
  right_letters = over_letters (told b).parts SmallLetter (rule_in b i).right (rule_sides b (sound_book_in b) i low).right

  pub part_letters : {v : Term} → Part v (rule_in b i).left → (x : ℕ) → In x v → x < 16
  part_letters {v} place = over_letters (told b).parts SmallLetter v
      (over_part (told b).parts SmallLetter place (rule_sides b (sound_book_in b) i low).left)

-- no flags and no notes
pub fresh_none : (st : Store) → st.count ≡ 0 → Fresh st
fresh_none st z i l = absurd (omega arith)

pub fresh_grown : (st su : Store) → Grown st su → Fresh st → Fresh su
fresh_grown st su g f i l = ⊎_elim
    (λ h. (g.new_flags i h l, g.new_notes i h l))
    (λ h. (g.flags i h ∙ (f i h).0, g.notes i h ∙ (f i h).1))
    (le_or_lt st.count i)

pub fresh_honest : (rs : List Eq) (st : Store) → Fresh st → Honest rs st
fresh_honest rs st f = record {
  flags = λ i l e. absurd (no_flag (sym (f i l).0 ∙ e));
  inside = λ i l h. absurd (omega (arith, (f i l).1));
  steps = λ i l h. absurd (omega (arith, (f i l).1));
  done = λ i l h. absurd (omega (arith, (f i l).1));
}
  where
    no_flag : false ≡ true → ⊥
    no_flag e = let z : ◌≡◌ {A = ℕ} 0 1 = cc in omega arith

-- all that building an instance asks for
abbrev pub CanFill : List ℕ → List ℕ → Bindings → Store → Type 0
CanFill ps ws u st = (FewParts ps × ((t : Term) × Fillable ps ws u t))
    × ((st.count + 32 ≤ st.limit) × AllInside st u)

-- the letters, the part, and the other left side are made in a cleared store
module _ (b : Book) {o : Overlap} {st a0 a1 : Store} {ls : Bindings} {ps ws : List ℕ} (stands : Stands b o) (room : 512 ≤ st.room)
    (em : Emptied st 512 a0) (made : LettersMade 32 a0 a1 ls)
    (ep : ps ≡ (told b).parts) (ew : ws ≡ row (rule_in b o.outer).left) where
  letters_space : a1.count + 32 ≤ a1.limit
  letters_space = omega (arith, made.few, made.grown.limit, em.limit, min_is st.room room)

  letter_bound : (x : ℕ) → x < 32 → Bound ls x
  letter_bound x l = let (p, e, i, t) = made.letters x l in (p, e)

  part_of : (v : Term) (place : Part v (rule_in b o.outer).left) → At place o.from o.to →
      Fillable ps (take (o.to - o.from) (drop o.from ws)) ls v
  part_of v place at = part_fillable b ps ep o.outer stands.outer ws ew place o.from o.to at ls
      (λ x l. letter_bound x (omega arith))

  pub part_fills : CanFill ps (take (o.to - o.from) (drop o.from ws)) ls a1
  part_fills = (
    (few_parts b ps ep, (stands.part, part_of stands.part stands.place stands.at)),
    (letters_space, letters_inside a0 a1 ls made),
  )

  module _ {a2 : Store} {part : Place} {rs : Bindings} {qs vs : List ℕ}
      (built : (t : Term) → Fillable ps (take (o.to - o.from) (drop o.from ws)) ls t → RowInstanceBuilt a1 ls t a2 part)
      (sh : Shifted ls rs) (eq : qs ≡ (told b).parts) (ev : vs ≡ row (rule_in b o.inner).left) where
    one : RowInstanceBuilt a1 ls stands.part a2 part
    one = built stands.part (part_of stands.part stands.place stands.at)

    one_small : size stands.part ≤ 32
    one_small = (part_of stands.part stands.place stands.at).small

    part_space : a2.count + 32 ≤ a2.limit
    part_space = omega (arith, one.few, one.grown.limit, one_small, made.few, made.grown.limit, em.limit, min_is st.room room)

    renamed_inside : AllInside a2 rs
    renamed_inside = shifted_inside ls rs sh a2 (grown_inside a1 a2 ls one.grown (letters_inside a0 a1 ls made))

    other_fillable : Fillable qs vs rs (rule_in b o.inner).left
    other_fillable = left_fillable b qs eq o.inner stands.inner vs rs ev (shifted_bound ls rs sh letter_bound)

    pub other_fills : CanFill qs vs rs a2
    other_fills = ((few_parts b qs eq, ((rule_in b o.inner).left, other_fillable)), (part_space, renamed_inside))

    module _ {a3 : Store} {other : Place} (built2 : (t : Term) → Fillable qs vs rs t → RowInstanceBuilt a2 rs t a3 other) where
      second : RowInstanceBuilt a2 rs (rule_in b o.inner).left a3 other
      second = built2 (rule_in b o.inner).left other_fillable

      grown3 : Grown a1 a3
      grown3 = grown_then a1 a2 a3 one.grown second.grown

      few3 : a3.count ≤ 96
      few3 = omega (arith, made.few, one.few, second.few, one_small, (rule_sides b (sound_book_in b) o.inner stands.inner).left_size)

      part_there : part.0 < a3.count
      part_there = omega (arith, one.inside, second.grown.longer)

      ready : Ready a3 ls
      ready = record {
        sound = second.sound;
        few = few3;
        space = omega (arith, few3, grown3.limit, made.grown.limit, em.limit, min_is st.room room);
        low = λ i x l e. ⊎_elim
            (λ h. absurd (signs_then a1 a2 a3 one.signs second.grown second.signs i x h l e))
            (λ h. made.low i x h (sym (grown3.terms i h) ∙ e))
            (le_or_lt a1.count i);
        letters = letters_grown a1 a3 ls grown3 made.letters;
      }

      pub unifies : Ready a3 ls × ((part.0 < a3.count) × (other.0 < a3.count))
      unifies = (ready, (part_there, second.inside))

      pub found : {a4 : Store} {r : Maybe Bindings} → Sound a4 → Grown a3 a4 → a4.count ≤ a3.count + 96 →
          Unified a4 (term_in a3 part.0) (term_in a3 other.0) r → UnifierFound b o st a4 r
      found {a4} {r} s g few u = record {
        sound = s;
        fresh = fresh_grown a3 a4 g (fresh_grown a1 a3 grown3 (fresh_grown a0 a1 made.grown (fresh_none a0 em.none)));
        room = g.room ∙ (grown3.room ∙ (made.grown.room ∙ em.room));
        space = omega (arith, few3, g.limit, grown3.limit, made.grown.limit, em.limit, min_is st.room room);
        unified = λ v place at. subst₂ (λ (t w : Term). Unified a4 t w r) (part_is v place at) other_is u;
      }
        where
          part_is : (v : Term) (place : Part v (rule_in b o.outer).left) → At place o.from o.to → term_in a3 part.0 ≡ v
          part_is v place at = second.grown.terms part.0 one.inside ∙ ((built v (part_of v place at)).is
              ∙ letters_put a1 ls v made.letters
              (λ x i. let k = part_letters b o.outer stands.outer place x i in omega arith))

          other_is : term_in a3 other.0 ≡ renamed (rule_in b o.inner).left
          other_is = second.is ∙ renamed_put ls rs sh a2 (rule_in b o.inner).left
              (letters_grown a1 a2 ls one.grown made.letters) (left_letters b o.inner stands.inner)

-- the two results
module _ (b : Book) {o : Overlap} {st : Store} {u : Bindings} {ps ws : List ℕ} (stands : Stands b o) (given : AllGiven st u)
    (space : st.count + 96 ≤ st.limit)
    (ep : ps ≡ (told b).parts) (ew : ws ≡ row (rule_in b o.outer).right) where
  outer_fillable : Fillable ps ws u (rule_in b o.outer).right
  outer_fillable = right_fillable b ps ep o.outer stands.outer ws u ew (λ x l. given.all x (omega arith))

  pub outer_fills : CanFill ps ws u st
  outer_fills = ((few_parts b ps ep, ((rule_in b o.outer).right, outer_fillable)), (omega arith, given.inside))

  module _ {a1 : Store} {one : Place} {us : Bindings} {qs vs : List ℕ}
      (built : (t : Term) → Fillable ps ws u t → RowInstanceBuilt st u t a1 one)
      (sh : Shifted u us) (eq : qs ≡ (told b).parts) (ev : vs ≡ row (rule_in b o.inner).right) where
    first : RowInstanceBuilt st u (rule_in b o.outer).right a1 one
    first = built (rule_in b o.outer).right outer_fillable

    first_space : a1.count + 64 ≤ a1.limit
    first_space = omega (arith, first.few, first.grown.limit, (rule_sides b (sound_book_in b) o.outer stands.outer).right_size)

    shifted_there : AllInside a1 us
    shifted_there = shifted_inside u us sh a1 (grown_inside st a1 u first.grown given.inside)

    inner_fillable : Fillable qs vs us (rule_in b o.inner).right
    inner_fillable = right_fillable b qs eq o.inner stands.inner vs us ev (shifted_bound u us sh given.all)

    pub inner_fills : CanFill qs vs us a1
    inner_fills = (
      (few_parts b qs eq, ((rule_in b o.inner).right, inner_fillable)),
      (omega (arith, first_space), shifted_there),
    )

    module _ {a2 : Store} {inner : Place} {uh : Bindings} {ds hs xs : List ℕ}
        (built2 : (t : Term) → Fillable qs vs us t → RowInstanceBuilt a1 us t a2 inner) (ex : xs ≡ row (rule_in b o.outer).left)
        (hole : ds ≡ holed xs o.from o.to) (hb : HoleBound u inner uh) (eh : hs ≡ (told b).parts) where
      middle : RowInstanceBuilt a1 us (rule_in b o.inner).right a2 inner
      middle = built2 (rule_in b o.inner).right inner_fillable

      grown2 : Grown st a2
      grown2 = grown_then st a1 a2 first.grown middle.grown

      inner_space : a2.count + 32 ≤ a2.limit
      inner_space =
          let s = rule_sides b (sound_book_in b) o.inner stands.inner in
          omega (arith, first_space, middle.few, middle.grown.limit, s.right_size)

      filling_inside : AllInside a2 uh
      filling_inside = hole_inside u inner uh hb a2 middle.inside (grown_inside st a2 u grown2 given.inside)

      context_of : (v : Term) (place : Part v (rule_in b o.outer).left) → At place o.from o.to →
          Fillable hs ds uh (fill place letter (letter 16))
      context_of v place at = hole_fillable b hs eh o.outer stands.outer xs ex place o.from o.to at ds uh hole
          (hole_bound u inner uh hb given.all)

      pub context_fills : CanFill hs ds uh a2
      context_fills = (
        (
          few_parts b hs eh,
          (fill stands.place letter (letter 16), context_of stands.part stands.place stands.at),
        ),
        (inner_space, filling_inside),
      )

      pub results_built : {a3 : Store} {two : Place} →
          ((t : Term) → Fillable hs ds uh t → RowInstanceBuilt a2 uh t a3 two) →
          ResultsBuilt b o st u a3 (record { first = one; second = two })
      results_built {a3} {two} built3 =
          let l = built3 _ (context_of stands.part stands.place stands.at) in
          let g = grown_then a1 a2 a3 middle.grown l.grown in
          record {
            sound = l.sound;
            grown = grown_then st a1 a3 first.grown g;
            results = λ v place at. record {
              first_inside = omega (arith, first.inside, g.longer);
              second_inside = l.inside;
              first = g.terms one.0 first.inside ∙ first.is;
              second = (built3 (fill place letter (letter 16)) (context_of v place at)).is
                  ∙ (hole_put u inner uh hb st a2 place grown2 given (left_letters b o.outer stands.outer)
                  ∙ ap (fill place (put_in st u)) (middle.is ∙ shifted_put u us sh st a1 (rule_in b o.inner).right first.grown given
                  (right_letters b o.inner stands.inner)));
            };
          }

-- both together
pub pair_found : {b : Book} {o : Overlap} {st su sv : Store} {u : Bindings} {r : Pair} →
    UnifierFound b o st su (Some u) → ResultsBuilt b o su u sv r → PairFound b o st sv (Some r)
pair_found {b} {su = su} {sv} f m = record {
  honest = fresh_honest (told b).rules sv (fresh_grown su sv m.grown f.fresh);
  room = m.grown.room ∙ f.room;
  pair = λ v place at. (least_of (f.unified v place at), m.results v place at);
}
