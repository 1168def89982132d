-- Matching: what was put for the letters of a term is found again in the result.
use mathlib.Core.Path.{◌≡◌, refl, sym, ap}
use Prim.Native.Nat.{ℕ}
use native.Mathlib.Decide.{ℕ_discrete}
use Rattle.rewriting.specs.Terms.{Term, letter, sign, Terms, none1, and1, put, puts, In, is, part, Ins, here, there}
use Rattle.rewriting.proofs.Choosing.{dec_map, pick, pick_has, pick_yes}
use Rattle.rewriting.proofs.Replacing.{put_agree}
use Rattle.rewriting.proofs.Comparing.{dec_term}

-- what stands in t where l has the letter x, else d
abbrev mutual
  pub find : ℕ → Term → Term → Term → Term
  find x (letter y) t d = pick (ℕ_discrete x y) t d
  find x (sign f ls) (letter y) d = d
  find x (sign f ls) (sign g ts) d = finds x ls ts d

  pub finds : ℕ → Terms → Terms → Term → Term
  finds x none1 ts d = d
  finds x (and1 l ls) none1 d = d
  finds x (and1 l ls) (and1 t ts) d = find x l t (finds x ls ts d)

abbrev pub found : Term → Term → ℕ → Term
found l t x = find x l t (letter x)

module _ (s : ℕ → Term) (x : ℕ) where
  mutual
    find_else : (l d : Term) → d ≡ s x → find x l (put s l) d ≡ s x
    find_else (letter y) d e = pick_has (λ (t : Term). t ≡ s x) (ℕ_discrete x y) (s y) d (λ h. ap s (sym h)) (λ n. e)
    find_else (sign f ls) d e = finds_else ls d e

    finds_else : (ls : Terms) (d : Term) → d ≡ s x → finds x ls (puts s ls) d ≡ s x
    finds_else none1 d e = e
    finds_else (and1 l ls) d e = find_else l (finds x ls (puts s ls) d) (finds_else ls d e)

  mutual
    find_in : {l : Term} → In x l → (d : Term) → find x l (put s l) d ≡ s x
    find_in is d = pick_yes (ℕ_discrete x x) (s x) d refl
    find_in (part i) d = finds_in i d

    finds_in : {ls : Terms} → Ins x ls → (d : Term) → finds x ls (puts s ls) d ≡ s x
    finds_in (here {ts = ls} i) d = find_in i (finds x ls (puts s ls) d)
    finds_in (there {t = l} {ts = ls} i) d = find_else l (finds x ls (puts s ls) d) (finds_in i d)

pub found_in : (s : ℕ → Term) {x : ℕ} {l : Term} → In x l → found l (put s l) x ≡ s x
found_in s {x} i = find_in s x i (letter x)

-- it does the same to a term with no other letters
pub found_put : (s : ℕ → Term) (l u : Term) → ((x : ℕ) → In x u → In x l) → put (found l (put s l)) u ≡ put s u
found_put s l u h = put_agree (found l (put s l)) s u (λ x i. found_in s (h x i))

-- so a term is had from l just if it is had by what is found
pub found_same : (s : ℕ → Term) (l t : Term) → put s l ≡ t → put (found l t) l ≡ t
found_same s l t e = rw (← e) (found_put s l l (λ x i. i))

pub dec_instance : (l t : Term) → Dec ((s : ℕ → Term) × (put s l ≡ t))
dec_instance l t = dec_map (λ e. (found l t, e)) (λ p. found_same p.0 l t p.1) (dec_term (put (found l t) l) t)
