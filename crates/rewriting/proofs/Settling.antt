-- Books that settle their equations: equal terms come together, and each comes to one term that is done.
use mathlib.Core.Path.{◌≡◌, refl, sym, ◌∙◌, ap, subst₂}
use mathlib.Core.List.{List}
use mathlib.Core.Option.{some}
use Prim.Native.Nat.{ℕ, ◌+◌}
use Rattle.rewriting.specs.Terms.{nth, Term, letter, Terms, none1, and1, put, puts, count, SmallLetter, Fits}
use Rattle.rewriting.specs.Rules.{Eq, Equal, same, back, on, by, inside, Equals, none_left, and_then, Meet, Done}
use Rattle.rewriting.specs.Rules.{Step, at_top, below, Steps1, in_first, in_rest, Steps, stay, go}
use Rattle.rewriting.specs.Books.{Book, AllSides, OneEnd, NoLess}
use Rattle.rewriting.specs.Theorems.{Settled}
use Rattle.rewriting.proofs.Choosing.{Each, pick, pick_yes, pick_no, dec_some}
use Rattle.rewriting.proofs.Replacing.{put_put}
use Rattle.rewriting.proofs.Stepping.{trans, done_stays, meet_put, meet_swap, stay_in, Meets, meet_below, meet_both}
use Rattle.rewriting.proofs.Signature.{over_fits}
use Rattle.rewriting.proofs.Reducts.{comes}
use Rattle.rewriting.proofs.Cleaning.{clean, cleans, clean_fits, clean_put, clean_same}

-- equality goes along with replacing
mutual
  pub equal_put : {es : List Eq} {t u : Term} → (k : ℕ → Term) → Equal es t u → Equal es (put k t) (put k u)
  equal_put k same = same
  equal_put k (back h) = back (equal_put k h)
  equal_put k (on h j) = on (equal_put k h) (equal_put k j)
  equal_put k (by i e s h) = rw (put_put k s e.left, put_put k s e.right) (by i e (λ x. put k (s x)) h)
  equal_put k (inside h) = inside (equals_put k h)

  equals_put : {es : List Eq} {ts us : Terms} → (k : ℕ → Term) → Equals es ts us → Equals es (puts k ts) (puts k us)
  equals_put k none_left = none_left
  equals_put k (and_then h j) = and_then (equal_put k h) (equals_put k j)

equals_same : {es : List Eq} (ts : Terms) → Equals es ts ts
equals_same none1 = none_left
equals_same (and1 t ts) = and_then same (equals_same ts)

equals_count : {es : List Eq} {ts us : Terms} → Equals es ts us → count ts ≡ count us
equals_count none_left = refl
equals_count (and_then h hs) = ap (λ n. 1 + n) (equals_count hs)

-- the sides of r are equal by es
abbrev pub Follows : List Eq → Eq → Type 0
Follows es r = Equal es r.left r.right

-- steps are equalities, if the rules say no more than the equations
module _ (es rs : List Eq) (no_more : Each (Follows es) rs) where
  mutual
    pub step_equal : {t u : Term} → Step rs t u → Equal es t u
    step_equal (at_top i r s e) = equal_put s (no_more i r e)
    step_equal (below h) = inside (steps1_equal h)

    steps1_equal : {ts us : Terms} → Steps1 rs ts us → Equals es ts us
    steps1_equal (in_first {ts = ts} h) = and_then (step_equal h) (equals_same ts)
    steps1_equal (in_rest h) = and_then same (steps1_equal h)

  steps_equal : {t u : Term} → Steps rs t u → Equal es t u
  steps_equal stay = same
  steps_equal (go h hs) = on (step_equal h) (steps_equal hs)

  meet_equal : {t u : Term} → Meet rs t u → Equal es t u
  meet_equal m = on (steps_equal m.1) (back (steps_equal m.2))

-- equal terms come together, both cleaned: the terms between them need not be of the book's signs
module _ (b : Book) (sides : AllSides b.parts b.eqs) (one_end : OneEnd b) (no_less : NoLess b) where
  abbrev cl : Term → Term
  cl t = clean b.parts t

  chain : (t u v : Term) → Fits b.parts u → Meet b.rules t u → Meet b.rules u v → Meet b.rules t v
  chain t u v f m n = let k = one_end u m.0 n.0 f m.2 n.1 in (k.0, trans m.1 k.1, trans n.2 k.2)

  by_meet : (i : ℕ) (e : Eq) (s : ℕ → Term) → nth b.eqs i ≡ some e → Meet b.rules (cl (put s e.left)) (cl (put s e.right))
  by_meet i e s h =
      let l = clean_put b.parts s e.left (over_fits b.parts SmallLetter e.left (sides i e h).left) in
      let r = clean_put b.parts s e.right (over_fits b.parts SmallLetter e.right (sides i e h).right) in
      rw (l, r) (meet_put (λ x. cl (s x)) (no_less i e h))

  pick_meet : {A : Type 0} (d : Dec A) {t u : Term} → (v : Term) → Meet b.rules t u → Meet b.rules (pick d t v) (pick d u v)
  pick_meet {A} (yes a) {t} {u} v m = rw (pick_yes (yes a) t v a, pick_yes (yes a) u v a) m
  pick_meet {A} (no n) {t} {u} v m = rw (pick_no (no n) t v n, pick_no (no n) u v n) (v, stay, stay)

  mutual
    equal_meet : {t u : Term} → Equal b.eqs t u → Meet b.rules (cl t) (cl u)
    equal_meet {t} same = (cl t, stay, stay)
    equal_meet (back h) = meet_swap (equal_meet h)
    equal_meet (on {t = t} {u = u} {v = v} h k) = chain (cl t) (cl u) (cl v) (clean_fits b.parts u) (equal_meet h) (equal_meet k)
    equal_meet (by i e s h) = by_meet i e s h
    equal_meet (inside {f = f} {us = us} h) = rw (equals_count h)
        (pick_meet (dec_some (nth b.parts f) (count us)) (letter 0) (meet_below f (equals_meet h)))

    equals_meet : {ts us : Terms} → Equals b.eqs ts us → Meets b.rules (cleans b.parts ts) (cleans b.parts us)
    equals_meet none_left = (none1, stay_in, stay_in)
    equals_meet (and_then h hs) = meet_both (equal_meet h) (equals_meet hs)

pub one_done : (b : Book) → OneEnd b → (t m n : Term) → Fits b.parts t →
    Steps b.rules t m → Done b.rules m → Steps b.rules t n → Done b.rules n → m ≡ n
one_done b one_end t m n f hm dm hn dn = let k = one_end t m n f hm hn in done_stays dm k.1 ∙ sym (done_stays dn k.2)

pub settled : Settled
settled b fine down one_end no_less no_more = record {
  equal = λ t u ft fu. (come t u ft fu, meet_equal b.eqs b.rules no_more);
  comes = comes b fine down;
  one = one_done b one_end;
}
  where
    come : (t u : Term) → Fits b.parts t → Fits b.parts u → Equal b.eqs t u → Meet b.rules t u
    come t u ft fu h = subst₂ (Meet b.rules) (clean_same b.parts t ft) (clean_same b.parts u fu)
        (equal_meet b fine.eqs one_end no_less h)
