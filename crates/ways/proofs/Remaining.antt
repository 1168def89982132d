-- The ways of all rules, one after the other.
use Rattle.std.proofs.Common.{◌≡◌, ℕ, ◌+◌, ◌<◌, List, [], ◌∷◌, ◌++◌, length, get_or, drop, Some, None, sym, refl, ap, ◌∙◌}
use Rattle.std.proofs.Common.{subst, add-one, arith, length-drop, drop-cons}
use Rattle.rewriting.specs.Terms.{Term}
use Rattle.rewriting.specs.Rules.{Eq}
use Rattle.rewriting.specs.Ways.{Way, Ways}
use Rattle.books.specs.declared.row.Book.{Book}
use Rattle.books.specs.Books.{told, blank, rule_in}
use Rattle.books.specs.Rows.{rowTerms, rowWays, AllFit, WaysFit, SomeWays}
use Rattle.books.proofs.Unique.{one_ways}
use Rattle.ways.specs.Showing.{TermsNext, WayTold, Shown}

-- terms of ways are over the signature, and there are as many ways as rules
way_fits : (ps : List ℕ) (es : List Eq) (t : Term) (w : List Term) (u : Term) → Way ps es t w u → AllFit ps w
way_fits ps es t [] u h = tt
way_fits ps es t (v ∷ w) u h = (h.0, way_fits ps es v w u h.2)

pub ways_fit : (ps : List ℕ) (es rs : List Eq) (ws : List (List Term)) → Ways ps es rs ws → WaysFit ps ws × (length ws ≡ length rs)
ways_fit ps es [] [] h = (tt, refl)
ways_fit ps es [] (w ∷ ws) h = absurd h
ways_fit ps es (r ∷ rs) [] h = absurd h
ways_fit ps es (r ∷ rs) (w ∷ ws) h =
    let g = ways_fit ps es rs ws h.1 in ((way_fits ps es r.left w r.right h.0, g.0), omega (arith, g.1))

pub not_ways : (k : Book) (h : List ℕ) (ps : List ℕ) (n : ℕ) → ps ≡ (told k).parts → n ≡ length (told k).rules → (SomeWays ps n h → ⊥) →
    Shown k h → ⊥
not_ways k h ps n e l none_there (ws, is, g) =
    let f = ways_fit (told k).parts (told k).eqs (told k).rules ws g in
    none_there (ws, record { written = is; each = f.1 ∙ sym l; fit = subst (λ (xs : List ℕ). WaysFit xs ws) (sym e) f.0 })

-- the words are ways, and those of the rules from i on, which stand at place a, show these rules exactly if all do
pub record LeftWays (k : Book) (h : List ℕ) (i a : ℕ) : Type 0 where
  pub ws : List (List Term)
  pub is : rowWays ws ≡ h
  pub fit : WaysFit (told k).parts ws
  pub vs : List (List Term)
  pub many : length vs + i ≡ length (told k).rules
  pub left_fit : WaysFit (told k).parts vs
  pub written : rowWays vs ≡ drop a h
  pub to : Ways (told k).parts (told k).eqs (told k).rules ws → Ways (told k).parts (told k).eqs (drop i (told k).rules) vs
  pub back : Ways (told k).parts (told k).eqs (drop i (told k).rules) vs → Ways (told k).parts (told k).eqs (told k).rules ws

pub left_start : (k : Book) (h : List ℕ) (ps : List ℕ) (n : ℕ) → ps ≡ (told k).parts → n ≡ length (told k).rules → SomeWays ps n h →
    LeftWays k h 0 0
left_start k h ps n e l (ws, r) =
    let f = subst (λ (xs : List ℕ). WaysFit xs ws) e r.fit in
    record {
      ws = ws;
      is = r.written;
      fit = f;
      vs = ws;
      many = omega (arith, r.each);
      left_fit = f;
      written = r.written;
      to = λ g. g;
      back = λ g. g;
    }

-- the next way
pub record NextWay (k : Book) (h : List ℕ) (i a : ℕ) (l : LeftWays k h i a) : Type 0 where
  pub way : List Term
  pub others : List (List Term)
  pub split : l.vs ≡ way ∷ others
  pub within : a < length h
  pub next : TermsNext k h (a + 1) (get_or h a 0) way (rowWays others)

next_word : (h : List ℕ) (a : ℕ) → a < length h → drop a h ≡ get_or h a 0 ∷ drop (a + 1) h
next_word h a l = drop-cons h a 0 l ∙ ap (λ (k : ℕ). get_or h a 0 ∷ drop k h) (sym (add-one a))

pub next_way : (k : Book) (h : List ℕ) (i a : ℕ) (l : LeftWays k h i a) → i < length (told k).rules → NextWay k h i a l
next_way k h i a l low = go l.vs refl
  where
    go : (vs : List (List Term)) → l.vs ≡ vs → NextWay k h i a l
    go [] e = absurd (omega (arith, l.many, ap length e))
    go (v ∷ vs) e =
        let f = subst (WaysFit (told k).parts) e l.left_fit in
        let d : length v ∷ (rowTerms v ++ rowWays vs) ≡ drop a h = ap rowWays (sym e) ∙ l.written in
        let low_a : a < length h = omega (arith, ap length d, length-drop a h) in
        let g : length v ∷ (rowTerms v ++ rowWays vs) ≡ get_or h a 0 ∷ drop (a + 1) h = d ∙ next_word h a low_a in
        let n : length v ≡ get_or h a 0 = cc in
        let w : drop (a + 1) h ≡ rowTerms v ++ rowWays vs = cc in
        record { way = v; others = vs; split = e; within = low_a; next = record { many = n; fit = f.0; written = w } }

module _ (k : Book) (h : List ℕ) (i a : ℕ) (l : LeftWays k h i a) (low : i < length (told k).rules) where
  rules_split : drop i (told k).rules ≡ rule_in k i ∷ drop (i + 1) (told k).rules
  rules_split = drop-cons (told k).rules i blank low ∙ ap (λ (j : ℕ). rule_in k i ∷ drop j (told k).rules) (sym (add-one i))

  n : NextWay k h i a l
  n = next_way k h i a l low

  pub next_within : a < length h
  next_within = n.within

  split_ways : Ways (told k).parts (told k).eqs (drop i (told k).rules) l.vs →
      Ways (told k).parts (told k).eqs (rule_in k i ∷ drop (i + 1) (told k).rules) (n.way ∷ n.others)
  split_ways g = subst (Ways (told k).parts (told k).eqs (rule_in k i ∷ drop (i + 1) (told k).rules)) n.split
      (subst (λ (rs : List Eq). Ways (told k).parts (told k).eqs rs l.vs) rules_split g)

  join_ways : Ways (told k).parts (told k).eqs (rule_in k i ∷ drop (i + 1) (told k).rules) (n.way ∷ n.others) →
      Ways (told k).parts (told k).eqs (drop i (told k).rules) l.vs
  join_ways g = subst (λ (rs : List Eq). Ways (told k).parts (told k).eqs rs l.vs) (sym rules_split)
      (subst (Ways (told k).parts (told k).eqs (rule_in k i ∷ drop (i + 1) (told k).rules)) (sym n.split) g)

  pub left_more : (z : ℕ) → WayTold k h (a + 1) (get_or h a 0) (rule_in k i) (Some z) → LeftWays k h (i + 1) z
  left_more z t =
      let g = t n.way (rowWays n.others) n.next in
      record {
        ws = l.ws;
        is = l.is;
        fit = l.fit;
        vs = n.others;
        many = omega (arith, l.many, ap length n.split);
        left_fit = (subst (WaysFit (told k).parts) n.split l.left_fit).1;
        written = sym g.1;
        to = λ w. (split_ways (l.to w)).1;
        back = λ w. l.back (join_ways (g.0, w));
      }

  pub left_stop : WayTold k h (a + 1) (get_or h a 0) (rule_in k i) None → Shown k h → ⊥
  left_stop t (xs, e, g) =
      let f = ways_fit (told k).parts (told k).eqs (told k).rules xs g in
      let same : xs ≡ l.ws = one_ways (told k).parts h xs l.ws f.0 l.fit e l.is in
      let w = split_ways (l.to (subst (Ways (told k).parts (told k).eqs (told k).rules) same g)) in
      t n.way (rowWays n.others) n.next w.0
