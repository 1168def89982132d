-- What a kind shows, and that a flag changes no kind.
use Rattle.std.proofs.Common.{◌≡◌, ℕ, ◌+◌, ◌<◌, true, List, length, sym, ap, ◌∙◌, subst, ⊎_elim, add-one, arith, le-leb}
use Rattle.rewriting.specs.Terms.{Term, letter, sign}
use Rattle.store.specs.Cells.{cell, CellPut}
use Rattle.store.specs.Slots.{symbol_of, tag_of, kind_of, flag_of, kind_at, parts_by, node_by, node, term_of, Shared, Alike}
use Rattle.store.specs.Chains.{Chains}
use Rattle.store.proofs.Cases.{eq_or}
use Rattle.store.proofs.Decoding.{alike, term_alike, shared_alike}
use Rattle.store.proofs.Chaining.{chains_alike, chains_kept}

pub node_letter : (d : ℕ → Term) (k : ℕ) (p : ℕ → ℕ) (x : ℕ) → tag_of k ≡ 0 → symbol_of k ≡ x → node d k p ≡ letter x
unfolding node
node_letter d k p x t s = ap (node_by d p (symbol_of k)) t ∙ ap letter s

pub node_sign : (d : ℕ → Term) (k : ℕ) (p : ℕ → ℕ) (f n : ℕ) → tag_of k ≡ n + 1 → symbol_of k ≡ f → node d k p ≡ sign f (parts_by d p 0 n)
unfolding node
node_sign d k p f n t s = ap (node_by d p (symbol_of k)) (t ∙ add-one n) ∙ ap (λ (g : ℕ). sign g (parts_by d p 0 n)) s

pub kind_low : (h : ℕ) → kind_of h < 34359738368
unfolding kind_of
kind_low h = omega arith

kind_flagged : (h : ℕ) → kind_of (kind_of h + 34359738368) ≡ kind_of h
unfolding kind_of
kind_flagged h = omega arith

flag_flagged : (h : ℕ) → flag_of (kind_of h + 34359738368) ≡ true
unfolding flag_of
flag_flagged h = le-leb _ _ (omega arith)

-- the flag of slot i is set, and nothing else is changed
pub record Flagged (vs ws : List ℕ) (c mask i : ℕ) : Type 0 where
  pub shared : Shared ws c
  pub chains : Chains mask ws c
  pub terms : (j : ℕ) → j < c → term_of ws j ≡ term_of vs j
  pub flag : flag_of (cell ws i 0) ≡ true
  pub flags : (j : ℕ) → j < c → (j ≡ i → ⊥) → flag_of (cell ws j 0) ≡ flag_of (cell vs j 0)

module _ (vs ws : List ℕ) (c mask i h : ℕ) (w : Shared vs c) (ch : Chains mask vs c) (e : h ≡ kind_at vs i + 34359738368)
    (p : CellPut vs i 0 h ws) (long : length ws ≡ length vs) where
  head : cell ws i 0 ≡ kind_at vs i + 34359738368
  head = p.is ∙ e

  flag_alike : Alike vs ws c
  flag_alike = record {
    kinds = λ j l. ⊎_elim
        (λ q. subst (λ (x : ℕ). kind_at ws x ≡ kind_at vs x) (sym q) (ap kind_of head ∙ kind_flagged _))
        (λ q. ap kind_of (p.rest j 0 (omega arith) (λ a b. q a))) (eq_or j i);
    parts = λ j k l m. p.rest j (k + 1) (omega arith) (λ a b. omega arith);
  }

  pub flagged : Flagged vs ws c mask i
  flagged = record {
    shared = shared_alike vs ws c w long flag_alike;
    chains = chains_alike mask vs ws c ch w.shape long flag_alike
        (λ b. p.rest b 6 (omega arith) (λ a n. omega arith)) (λ j. p.rest j 5 (omega arith) (λ a n. omega arith));
    terms = term_alike vs ws c w.shape flag_alike;
    flag = ap flag_of head ∙ flag_flagged _;
    flags = λ j l n. ap flag_of (p.rest j 0 (omega arith) (λ a b. n a));
  }

-- a note is set, and nothing else is changed
pub record Noted (vs ws : List ℕ) (c mask : ℕ) : Type 0 where
  pub shared : Shared ws c
  pub chains : Chains mask ws c
  pub terms : (j : ℕ) → j < c → term_of ws j ≡ term_of vs j
  pub flags : (j : ℕ) → j < c → flag_of (cell ws j 0) ≡ flag_of (cell vs j 0)

pub noted : (vs ws : List ℕ) (c mask i v : ℕ) → Shared vs c → Chains mask vs c → CellPut vs i 7 v ws → length ws ≡ length vs →
    Noted vs ws c mask
noted vs ws c mask i v w ch p long =
    let same : (j k : ℕ) → k < 7 → cell ws j k ≡ cell vs j k = λ j k l. p.rest j k (omega arith) (λ q m. omega arith) in
    let like : Alike vs ws c = alike vs ws c (λ j k l m. same j k (omega arith)) in
    record {
      shared = shared_alike vs ws c w long like;
      chains = chains_kept mask vs ws c ch w.shape long same;
      terms = term_alike vs ws c w.shape like;
      flags = λ j l. ap flag_of (same j 0 (omega arith));
    }
