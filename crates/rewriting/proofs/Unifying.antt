-- Unification: the first place where two terms differ has a letter, which is replaced everywhere, until they are one or can't be.
use mathlib.Core.Path.{◌≡◌, refl, sym, ◌∙◌, ap, subst}
use mathlib.Core.Logic.{◌⊎◌, inl, inr}
use mathlib.Core.List.{List, ◌++◌}
use mathlib.Core.WellFounded.{Acc}
use Prim.Native.Nat.{ℕ, ◌+◌, ◌<◌}
use lib.WfN.{lt-wf_rel}
use native.Mathlib.Omega.{arith}
use native.Mathlib.Decide.{ℕ_discrete}
use lib.ListN.{length}
use Rattle.rewriting.specs.Terms.{Term, letter, sign, Terms, none1, and1, put, puts, size, sizes, AnyLetter, Fits}
use Rattle.rewriting.specs.Terms.{In, is, part, Ins, here, there}
use Rattle.rewriting.specs.Overlaps.{Least}
use Rattle.rewriting.specs.Theorems.{MadeOne}
use Rattle.rewriting.proofs.Replacing.{put_put, put_through, in_put, sizes_in, change, change_has, change_here, change_other}
use Rattle.rewriting.proofs.Comparing.{letter_not_sign, none_not_and}
use Rattle.rewriting.proofs.Letters.{Member, member_left, member_right, letters, letters_has, in_letter, dec_in}
use Rattle.rewriting.proofs.Letters.{remove, remove_keeps, remove_shorter}
use Rattle.rewriting.proofs.Signature.{put_fits}
use Rattle.rewriting.proofs.Cleaning.{clean, clean_fits, clean_put}

-- of two terms with letters in W: they are the same; or nothing makes them one, which Q says of a replacement; or what does
-- puts for a letter x what it makes of another term u
data Difference (W : ℕ → Type 0) (Same : Type 0) (Q : (ℕ → Term) → Type 0) : Type 0 where
  alike : Same → Difference W Same Q
  clash : ((r : ℕ → Term) → Q r → ⊥) → Difference W Same Q
  differ : (x : ℕ) (u : Term) → (letter x ≡ u → ⊥) → W x → ((z : ℕ) → In z u → W z) →
      ((r : ℕ → Term) → Q r → r x ≡ put r u) → Difference W Same Q

module _ (W : ℕ → Type 0) where
  letters_differ : (x y : ℕ) → W x → W y → Dec (x ≡ y) → Difference W (letter x ≡ letter y) (λ r. r x ≡ r y)
  letters_differ x y p q (yes e) = alike (ap letter e)
  letters_differ x y p q (no n) = differ x (letter y) (λ e. n (cc)) p (λ z i. subst W (sym (in_letter i)) q) (λ r e. e)

  signs_differ : (f g : ℕ) (ts us : Terms) → Dec (f ≡ g) → Difference W (ts ≡ us) (λ r. puts r ts ≡ puts r us) →
      Difference W (sign f ts ≡ sign g us) (λ r. sign f (puts r ts) ≡ sign g (puts r us))
  signs_differ f g ts us (no n) d = clash (λ r e. n (cc))
  signs_differ f g ts us (yes d) (alike e) = alike (cc)
  signs_differ f g ts us (yes d) (clash c) = clash (λ r e. c r (cc))
  signs_differ f g ts us (yes d) (differ x u n p q h) = differ x u n p q (λ r e. h r (cc))

  ands_differ : (t u : Term) (ts us : Terms) → Difference W (t ≡ u) (λ r. put r t ≡ put r u) →
      Difference W (ts ≡ us) (λ r. puts r ts ≡ puts r us) →
      Difference W (and1 t ts ≡ and1 u us) (λ r. and1 (put r t) (puts r ts) ≡ and1 (put r u) (puts r us))
  ands_differ t u ts us (alike e) (alike d) = alike (cc)
  ands_differ t u ts us (alike e) (clash c) = clash (λ r d. c r (cc))
  ands_differ t u ts us (alike e) (differ x v n p q h) = differ x v n p q (λ r d. h r (cc))
  ands_differ t u ts us (clash c) d = clash (λ r e. c r (cc))
  ands_differ t u ts us (differ x v n p q h) d = differ x v n p q (λ r e. h r (cc))

  mutual
    difference : (t u : Term) → ((z : ℕ) → In z t → W z) → ((z : ℕ) → In z u → W z) → Difference W (t ≡ u) (λ r. put r t ≡ put r u)
    difference (letter x) (letter y) p q = letters_differ x y (p x is) (q y is) (ℕ_discrete x y)
    difference (letter x) (sign g us) p q = differ x (sign g us) letter_not_sign (p x is) q (λ r e. e)
    difference (sign f ts) (letter y) p q = differ y (sign f ts) letter_not_sign (q y is) p (λ r e. sym e)
    difference (sign f ts) (sign g us) p q =
        signs_differ f g ts us (ℕ_discrete f g) (differences ts us (λ z i. p z (part i)) (λ z i. q z (part i)))

    differences : (ts us : Terms) → ((z : ℕ) → Ins z ts → W z) → ((z : ℕ) → Ins z us → W z) →
        Difference W (ts ≡ us) (λ r. puts r ts ≡ puts r us)
    differences none1 none1 p q = alike refl
    differences none1 (and1 u us) p q = clash (λ r e. none_not_and e)
    differences (and1 t ts) none1 p q = clash (λ r e. none_not_and (sym e))
    differences (and1 t ts) (and1 u us) p q = ands_differ t u ts us
        (difference t u (λ z i. p z (here i)) (λ z i. q z (here i))) (differences ts us (λ z i. p z (there i)) (λ z i. q z (there i)))

-- the occurs check: what is put for a letter isn't what a larger term with that letter becomes
occurs : (r : ℕ → Term) (x : ℕ) (u : Term) → In x u → (letter x ≡ u → ⊥) → r x ≡ put r u → ⊥
occurs r x (letter y) i n e = n (ap letter (in_letter i))
occurs r x (sign f us) (part i) n e =
    let h = sizes_in r i in let d : size (r x) ≡ 1 + sizes (puts r us) = ap size e in omega arith

-- u for x everywhere
pub single : ℕ → Term → ℕ → Term
single x u = change letter x u

pub single_here : (x : ℕ) (u : Term) → single x u x ≡ u
unfolding single
single_here x u = change_here letter x u

pub single_other : (x : ℕ) (u : Term) (y : ℕ) → (x ≡ y → ⊥) → single x u y ≡ letter y
unfolding single
single_other x u y n = change_other letter x u y n

pub single_holds : (r : ℕ → Term) (x : ℕ) (u : Term) → r x ≡ put r u → (y : ℕ) → r y ≡ put r (single x u y)
unfolding single
single_holds r x u e y = change_has (λ (t : Term). r y ≡ put r t) letter x u y (λ d. sym (ap r d) ∙ e) (λ n. refl)

pub single_put : (r : ℕ → Term) (x : ℕ) (u : Term) → r x ≡ put r u → (t : Term) → put r (put (single x u) t) ≡ put r t
single_put r x u e t = put_through r (single x u) r (single_holds r x u e) t

abbrev Within : List ℕ → Term → Type 0
Within xs t = (z : ℕ) → In z t → Member z xs

-- it takes the letter away
single_within : (xs : List ℕ) (x : ℕ) (u t : Term) → (In x u → ⊥) → Within xs u → Within xs t → Within (remove x xs) (put (single x u) t)
unfolding single
single_within xs x u t n wu wt z i =
    let h = in_put z (change letter x u) t i in
    change_has (λ (v : Term). In z v → Member z (remove x xs)) letter x u h.0
    (λ e j. remove_keeps x (wu z j) (λ d. n (subst (λ (y : ℕ). In y u) (sym d) j)))
    (λ m j. remove_keeps x (wt z (subst (λ (y : ℕ). In y t) (sym (in_letter j)) h.1)) (λ d. m (d ∙ in_letter j)))
    h.2

abbrev pub Never : Term → Term → Type 0
Never a b = (r : ℕ → Term) → put r a ≡ put r b → ⊥

abbrev pub Solved : Term → Term → Type 0
Solved a b = Least a b ⊎ Never a b

-- two terms that are made one only by what puts the same for x and u, told by what they are with u for x
module _ (a b : Term) (x : ℕ) (u : Term) (same : (r : ℕ → Term) → put r a ≡ put r b → r x ≡ put r u) where
  after : (r : ℕ → Term) → put r a ≡ put r b → put r (put (single x u) a) ≡ put r (put (single x u) b)
  after r e = single_put r x u (same r e) a ∙ (e ∙ sym (single_put r x u (same r e) b))

  before : Solved (put (single x u) a) (put (single x u) b) → Solved a b
  before (inr n) = inr (λ r e. n r (after r e))
  before (inl l) = inl (record {
    s = λ y. put l.s (single x u y);
    one = sym (put_put l.s (single x u) a) ∙ (l.one ∙ put_put l.s (single x u) b);
    most = λ r e y. single_holds r x u (same r e) y ∙ sym (put_through r l.s r (l.most r (after r e)) (single x u y));
  })

-- two terms with letters in xs, if all terms with fewer letters are solved
module _ (xs : List ℕ) (a b : Term) (wa : Within xs a) (wb : Within xs b)
    (fewer : (ys : List ℕ) → length ys < length xs → (c d : Term) → Within ys c → Within ys d → Solved c d) where
  by_letter : (x : ℕ) (u : Term) → (letter x ≡ u → ⊥) → Member x xs → Within xs u →
      ((r : ℕ → Term) → put r a ≡ put r b → r x ≡ put r u) → Dec (In x u) → Solved a b
  by_letter x u other m wu same (yes i) = inr (λ r e. occurs r x u i other (same r e))
  by_letter x u other m wu same (no n) = before a b x u same
      (fewer (remove x xs) (remove_shorter m) (put (single x u) a) (put (single x u) b)
      (single_within xs x u a n wu wa) (single_within xs x u b n wu wb))

  by_difference : Difference (λ z. Member z xs) (a ≡ b) (λ r. put r a ≡ put r b) → Solved a b
  by_difference (alike e) = inl (record { s = letter; one = ap (put letter) e; most = λ r h x. refl })
  by_difference (clash c) = inr c
  by_difference (differ x u other m wu same) = by_letter x u other m wu same (dec_in x u)

solve : {n : ℕ} → Acc ◌<◌ n → (xs : List ℕ) → length xs ≡ n → (a b : Term) → Within xs a → Within xs b → Solved a b
solve (Acc.intro n h) xs k a b wa wb = by_difference xs a b wa wb
    (λ ys l c d wc wd. solve (h (length ys) (subst (λ (m : ℕ). length ys < m) k l)) ys refl c d wc wd)
    (difference (λ z. Member z xs) a b wa wb)

pub made_one : MadeOne
made_one a b = solve (lt-wf_rel.wf.apply (length (letters a ++ letters b))) (letters a ++ letters b) refl a b
    (λ z i. member_left (letters b) (letters_has i)) (λ z i. member_right (letters a) (letters_has i))

pub least : (a b : Term) (r : ℕ → Term) → put r a ≡ put r b → Least a b
least a b r e = elim (made_one a b) [ inl l ↦ l | inr n ↦ absurd (n r e) ]

-- the least for two terms over a signature puts only such terms: cleaned it makes them one too, so it is had from the least
pub least_fits : (ps : List ℕ) (a b : Term) (l : Least a b) → Fits ps a → Fits ps b → (x : ℕ) → Fits ps (l.s x)
least_fits ps a b l fa fb x = put_fits ps AnyLetter r (l.s x) (subst (Fits ps) (l.most r one x) (clean_fits ps (l.s x)))
  where
    r : ℕ → Term
    r y = clean ps (l.s y)

    one : put r a ≡ put r b
    one = sym (clean_put ps l.s a fa) ∙ (ap (clean ps) l.one ∙ clean_put ps l.s b fb)
