-- Terms over a signature: kept by replacing, had by parts, decided.
use mathlib.Core.Path.{◌∙◌, sym, ap, subst}
use mathlib.Core.List.{List}
use mathlib.Core.Option.{some}
use Prim.Native.Nat.{ℕ}
use Rattle.rewriting.specs.Terms.{nth, Term, letter, sign, Terms, none1, and1, put, puts, count, In, is, part, Ins, here, there}
use Rattle.rewriting.specs.Terms.{Over, AllOver, AnyLetter, Fits}
use Rattle.rewriting.specs.Rules.{Part, itself, in_part, Parts, in_this, in_later}
use Rattle.rewriting.proofs.Choosing.{dec_both, dec_some}
use Rattle.rewriting.proofs.Replacing.{put_letter, count_puts}

module _ (ps : List ℕ) where
  -- a replaced term is over the signature if the term is and what is put for its letters is
  mutual
    pub over_put : (L M : ℕ → Type 0) (s : ℕ → Term) (t : Term) → Over L ps t → ((x : ℕ) → In x t → Over M ps (s x)) → Over M ps (put s t)
    over_put L M s (letter x) h k = k x is
    over_put L M s (sign f ts) h k = (h.0 ∙ ap some (sym (count_puts s ts)), over_puts L M s ts h.1 (λ x i. k x (part i)))

    over_puts : (L M : ℕ → Type 0) (s : ℕ → Term) (ts : Terms) → AllOver L ps ts →
        ((x : ℕ) → Ins x ts → Over M ps (s x)) → AllOver M ps (puts s ts)
    over_puts L M s none1 h k = tt
    over_puts L M s (and1 t ts) h k = (over_put L M s t h.0 (λ x i. k x (here i)), over_puts L M s ts h.1 (λ x i. k x (there i)))

  -- and the other way round
  mutual
    pub put_over : (L : ℕ → Type 0) (s : ℕ → Term) {t : Term} {x : ℕ} → In x t → Over L ps (put s t) → Over L ps (s x)
    put_over L s is h = h
    put_over L s (part i) h = puts_over L s i h.1

    puts_over : (L : ℕ → Type 0) (s : ℕ → Term) {ts : Terms} {x : ℕ} → Ins x ts → AllOver L ps (puts s ts) → Over L ps (s x)
    puts_over L s (here i) h = put_over L s i h.0
    puts_over L s (there i) h = puts_over L s i h.1

  mutual
    pub put_fits : (L : ℕ → Type 0) (s : ℕ → Term) (t : Term) → Over L ps (put s t) → Fits ps t
    put_fits L s (letter x) h = tt
    put_fits L s (sign f ts) h = (h.0 ∙ ap some (count_puts s ts), puts_fit L s ts h.1)

    puts_fit : (L : ℕ → Type 0) (s : ℕ → Term) (ts : Terms) → AllOver L ps (puts s ts) → AllOver AnyLetter ps ts
    puts_fit L s none1 h = tt
    puts_fit L s (and1 t ts) h = (put_fits L s t h.0, puts_fit L s ts h.1)

  pub over_fits : (L : ℕ → Type 0) (t : Term) → Over L ps t → Fits ps t
  over_fits L t h = put_fits L letter t (subst (Over L ps) (sym (put_letter t)) h)

  pub over_letters : (L : ℕ → Type 0) (t : Term) → Over L ps t → (x : ℕ) → In x t → L x
  over_letters L t h x i = put_over L letter i (subst (Over L ps) (sym (put_letter t)) h)

  mutual
    pub over_part : (L : ℕ → Type 0) {n t : Term} → Part n t → Over L ps t → Over L ps n
    over_part L itself h = h
    over_part L (in_part p) h = over_parts L p h.1

    over_parts : (L : ℕ → Type 0) {n : Term} {ts : Terms} → Parts n ts → AllOver L ps ts → Over L ps n
    over_parts L (in_this p) h = over_part L p h.0
    over_parts L (in_later p) h = over_parts L p h.1

  mutual
    pub dec_over : (L : ℕ → Type 0) → ((x : ℕ) → Dec (L x)) → (t : Term) → Dec (Over L ps t)
    dec_over L d (letter x) = d x
    dec_over L d (sign f ts) = dec_both (dec_some (nth ps f) (count ts)) (dec_all_over L d ts)

    pub dec_all_over : (L : ℕ → Type 0) → ((x : ℕ) → Dec (L x)) → (ts : Terms) → Dec (AllOver L ps ts)
    dec_all_over L d none1 = yes tt
    dec_all_over L d (and1 t ts) = dec_both (dec_over L d t) (dec_all_over L d ts)

  pub dec_fits : (t : Term) → Dec (Fits ps t)
  dec_fits t = dec_over AnyLetter (λ x. yes tt) t
