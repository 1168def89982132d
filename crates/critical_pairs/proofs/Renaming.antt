-- Replacements that are had from each other differ in names of letters alone, so most general replacements of an overlap are alike.
use Rattle.std.proofs.Common.{◌≡◌, ℕ, List, refl, sym, ap, ◌∙◌}
use Rattle.rewriting.specs.Terms.{Term, letter, sign, Terms, put, puts, In, is, part, Ins, here, there}
use Rattle.rewriting.specs.Rules.{Eq, Meet, renamed}
use Rattle.rewriting.specs.Overlaps.{Least}
use Rattle.rewriting.proofs.Comparing.{letter_not_sign}
use Rattle.rewriting.proofs.Replacing.{put_put, put_agree, put_letter}
use Rattle.rewriting.proofs.Peaks.{results_through}
use Rattle.critical_pairs.specs.OverlapList.{Overlap, MostGeneral, first_of, second_of}
use Rattle.critical_pairs.specs.Renaming.{Alike}
use Rattle.critical_pairs.specs.Theorems.{MostGeneralAlike}

-- replacements that make the same of a term put the same for its letters
mutual
  pub agree_if_put : (r s : ℕ → Term) {x : ℕ} {t : Term} → In x t → put r t ≡ put s t → r x ≡ s x
  agree_if_put r s is e = e
  agree_if_put r s (part i) e = agree_if_puts r s i (cc)

  agree_if_puts : (r s : ℕ → Term) {x : ℕ} {ts : Terms} → Ins x ts → puts r ts ≡ puts s ts → r x ≡ s x
  agree_if_puts r s (here i) e = agree_if_put r s i (cc)
  agree_if_puts r s (there i) e = agree_if_puts r s i (cc)

-- the letter that a term is; a sign has none, and 0 stands for it
name : Term → ℕ
name (letter x) = x
name (sign f ts) = 0

-- only a letter is made a letter
letter_if_put_letter : (h : ℕ → Term) (t : Term) (z : ℕ) → put h t ≡ letter z → t ≡ letter (name t)
unfolding name
letter_if_put_letter h (letter y) z e = refl
letter_if_put_letter h (sign f ts) z e = absurd (letter_not_sign (sym e))

-- replacements that are had from each other: from s by k, and from r by h
module _ (s r k h : ℕ → Term) (from_s : (x : ℕ) → r x ≡ put k (s x)) (from_r : (x : ℕ) → s x ≡ put h (r x)) where
  there_and_back : (x z : ℕ) → In z (s x) → put h (k z) ≡ letter z
  there_and_back x z i = agree_if_put (λ y. put h (k y)) letter i
      (sym (put_put h k (s x)) ∙ (ap (put h) (sym (from_s x)) ∙ (sym (from_r x) ∙ sym (put_letter (s x)))))

  by_names : (x : ℕ) → r x ≡ put (λ z. letter (name (k z))) (s x)
  by_names x = from_s x
      ∙ put_agree k (λ z. letter (name (k z))) (s x) (λ z i. letter_if_put_letter h (k z) z (there_and_back x z i))

pub alike_if_from_each_other : (s r k h : ℕ → Term) →
    ((x : ℕ) → r x ≡ put k (s x)) → ((x : ℕ) → s x ≡ put h (r x)) → Alike s r
alike_if_from_each_other s r k h from_s from_r = record {
  there = λ z. name (k z);
  back = λ z. name (h z);
  by_there = by_names s r k h from_s from_r;
  by_back = by_names r s h k from_r from_s;
}

pub least_alike : (a b : Term) (l m : Least a b) → Alike l.s m.s
least_alike a b l m = alike_if_from_each_other l.s m.s m.s l.s (l.most m.s m.one) (m.most l.s l.one)

pub most_general_are_alike : (o : Overlap) (s r : ℕ → Term) → MostGeneral o s → MostGeneral o r → Alike s r
most_general_are_alike o s r a b =
    let (k, from_s) = a.most r b.one in let (h, from_r) = b.most s a.one in alike_if_from_each_other s r k h from_s from_r

pub least_is_general : (o : Overlap) (l : Least (sign o.at.f o.at.vs) (renamed o.q.left)) → MostGeneral o l.s
least_is_general o l = record { one = l.one; most = λ r e. (r, l.most r e) }

-- if both results come together for one most general replacement, they do for whatever makes the part and the left side one
pub meet_if_general_meets : (rs : List Eq) (o : Overlap) (s r : ℕ → Term) → MostGeneral o s →
    put r (sign o.at.f o.at.vs) ≡ put r (renamed o.q.left) →
    Meet rs (first_of o s) (second_of o s) → Meet rs (first_of o r) (second_of o r)
meet_if_general_meets rs o s r general e m =
    let (k, from_s) = general.most r e in results_through o.p o.q o.at.stands k s r from_s m

pub most_general_alike_holds : MostGeneralAlike
most_general_alike_holds = record {
  least = least_alike;
  general = most_general_are_alike;
  meet = λ rs o s r a b m. meet_if_general_meets rs o s r a b.one m;
  least_general = least_is_general;
}
