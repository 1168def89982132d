-- What has to be found out for each verdict on a book, and that it suffices.
use mathlib.Core.Path.{◌≡◌, sym, ap, subst}
use mathlib.Core.Logic.{◌⊎◌, inl, inr}
use mathlib.Core.List.{List}
use Prim.Native.Nat.{ℕ, ◌≤◌}
use native.Mathlib.Omega.{arith}
use Rattle.rewriting.specs.Terms.{Term, letter, sign, Terms, none1, and1, put, puts, size, sizes, Fits}
use Rattle.rewriting.specs.Rules.{Eq, Steps, Meet, Done, Part, renamed}
use Rattle.rewriting.specs.Order.{rank, AllDown}
use Rattle.rewriting.specs.Overlaps.{Least, Peak, first_result, second_result}
use Rattle.rewriting.specs.Books.{Book, Fine, OneEnd}
use Rattle.rewriting.proofs.Choosing.{Each}
use Rattle.rewriting.proofs.Replacing.{put_through}
use Rattle.rewriting.proofs.Glueing.{size_some}
use Rattle.rewriting.proofs.Stepping.{trans, done_stays}
use Rattle.rewriting.proofs.Settling.{one_done}
use Rattle.rewriting.proofs.Unifying.{Never}
use Rattle.rewriting.proofs.Peaks.{ResultsMeet, results_through, overlaps_tell_lem}

-- a part that isn't a letter and a rule: made one by the least, both results coming together; or never made one
abbrev pub CheckedAt : List Eq → (p q : Eq) {n t : Term} → Part n t → Type 0
CheckedAt rs p q {n} place = ((l : Least n (renamed q.left)) × ResultsMeet rs p q place l.s) ⊎ Never n (renamed q.left)

-- all such parts of the rules' left sides with all rules
abbrev pub Checked : Book → Type 0
Checked b = Each (λ (p : Eq). Each (λ (q : Eq).
    (f : ℕ) (vs : Terms) (place : Part (sign f vs) p.left) → CheckedAt b.rules p q place) b.rules) b.rules

pub one_end_by : (b : Book) → Fine b → AllDown (rank b.ranks) b.rules → Checked b → OneEnd b
one_end_by b fine down checked = overlaps_tell_lem b fine down
    (λ t k. told t k (checked k.i k.p k.is_p k.j k.q k.is_q k.f k.vs k.stands))
  where
    told : (t : Term) (k : Peak b.rules t) → CheckedAt b.rules k.p k.q k.stands →
        Meet b.rules (first_result k) (second_result k)
    told t k (inl l) = results_through k.p k.q k.stands k.s l.0.s k.s (l.0.most k.s k.meet) l.1
    told t k (inr never) = absurd (never k.s k.meet)

-- one term comes to two different ends: no one end
pub apart_by : (b : Book) (t m n : Term) → Fits b.parts t →
    Steps b.rules t m → Done b.rules m → Steps b.rules t n → Done b.rules n → (m ≡ n → ⊥) → OneEnd b → ⊥
apart_by b t m n f hm dm hn dn differ one = differ (one_done b one t m n f hm dm hn dn)

-- with one end, two terms that come to different ends don't meet
pub lost_by : (b : Book) → OneEnd b → (t u m n : Term) → Fits b.parts t → Fits b.parts u →
    Steps b.rules t m → Done b.rules m → Steps b.rules u n → Done b.rules n → (m ≡ n → ⊥) → Meet b.rules t u → ⊥
lost_by b one t u m n ft fu hm dm hn dn differ w =
    let k = one u n w.0 fu hn w.2 in
    let h : Steps b.rules w.0 n = subst (Steps b.rules w.0) (sym (done_stays dn k.1)) k.2 in
    apart_by b t m n ft hm dm (trans w.1 h) dn differ one

pub same_by : {rs : List Eq} (t u n : Term) → Steps rs t n → Steps rs u n → Meet rs t u
same_by t u n h k = (n, h, k)

-- replacing makes no term smaller
mutual
  pub size_put : (s : ℕ → Term) (t : Term) → size t ≤ size (put s t)
  size_put s (letter x) = size_some (s x)
  size_put s (sign f ts) = let h = sizes_put s ts in omega arith

  sizes_put : (s : ℕ → Term) (ts : Terms) → sizes ts ≤ sizes (puts s ts)
  sizes_put s none1 = omega arith
  sizes_put s (and1 t ts) = let h = size_put s t in let k = sizes_put s ts in omega arith

-- so whatever least is taken, a term at which two rules meet is as large
pub peak_size : {rs : List Eq} {t : Term} (k : Peak rs t) (l : Least (sign k.f k.vs) (renamed k.q.left)) →
    size t ≡ size (put l.s k.p.left)
peak_size k l =
    let m = k.most l.s l.one in
    let a = size_put k.s (put l.s k.p.left) in
    let b = size_put m.0 (put k.s k.p.left) in
    let c = ap size (put_through k.s l.s k.s (l.most k.s k.meet) k.p.left) in
    let d = ap size (put_through m.0 k.s l.s m.1 k.p.left) in
    let e = ap size k.is in
    omega arith
