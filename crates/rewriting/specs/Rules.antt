-- Equations and rewrite rules, and what follows from them.
use Rattle.std.specs.Prelude.{◌≡◌, List, ℕ, ◌+◌}
use Rattle.std.proofs.Math.Option.{some}
use Rattle.rewriting.specs.Terms.{nth, Term, letter, sign, Terms, none1, and1, put}

-- an equation, or a rule that goes from left to right
pub record Eq : Type 0 where
  pub left : Term
  pub right : Term

-- equal by equations (the equational theory): in every place, with anything put for letters, back and forth
mutual
  pub data Equal (es : List Eq) : Term → Term → Type 0 where
    same : {t : Term} → Equal es t t
    back : {t u : Term} → Equal es t u → Equal es u t
    on : {t u v : Term} → Equal es t u → Equal es u v → Equal es t v
    by : (i : ℕ) (e : Eq) (s : ℕ → Term) → nth es i ≡ some e → Equal es (put s e.left) (put s e.right)
    inside : {f : ℕ} {ts us : Terms} → Equals es ts us → Equal es (sign f ts) (sign f us)

  pub data Equals (es : List Eq) : Terms → Terms → Type 0 where
    none_left : Equals es none1 none1
    and_then : {t u : Term} {ts us : Terms} → Equal es t u → Equals es ts us → Equals es (and1 t ts) (and1 u us)

-- one step of the rules (the rewrite relation): a rule, with anything put for its letters, used at one place
mutual
  pub data Step (rs : List Eq) : Term → Term → Type 0 where
    at_top : (i : ℕ) (r : Eq) (s : ℕ → Term) → nth rs i ≡ some r → Step rs (put s r.left) (put s r.right)
    below : {f : ℕ} {ts us : Terms} → Steps1 rs ts us → Step rs (sign f ts) (sign f us)

  pub data Steps1 (rs : List Eq) : Terms → Terms → Type 0 where
    in_first : {t u : Term} {ts : Terms} → Step rs t u → Steps1 rs (and1 t ts) (and1 u ts)
    in_rest : {t : Term} {ts us : Terms} → Steps1 rs ts us → Steps1 rs (and1 t ts) (and1 t us)

-- any number of steps (the reflexive transitive closure)
pub data Steps (rs : List Eq) : Term → Term → Type 0 where
  stay : {t : Term} → Steps rs t t
  go : {t u v : Term} → Step rs t u → Steps rs u v → Steps rs t v

-- nothing can be done (a normal form)
abbrev pub Done : List Eq → Term → Type 0
Done rs t = (u : Term) → Step rs t u → ⊥

-- two terms come together (are joinable)
abbrev pub Meet : List Eq → Term → Term → Type 0
Meet rs t u = (v : Term) × Steps rs t v × Steps rs u v

-- no endless steps from t (t is strongly normalising): everything that one step leads to has none
pub data Ends (rs : List Eq) : Term → Type 0 where
  ends : {t : Term} → ((u : Term) → Step rs t u → Ends rs u) → Ends rs t

-- v stands in a term (v is a subterm); which of its occurrences is meant is told by the derivation, a position
mutual
  pub data Part (v : Term) : Term → Type 0 where
    itself : Part v v
    in_part : {f : ℕ} {ts : Terms} → Parts v ts → Part v (sign f ts)

  pub data Parts (v : Term) : Terms → Type 0 where
    in_this : {t : Term} {ts : Terms} → Part v t → Parts v (and1 t ts)
    in_later : {t : Term} {ts : Terms} → Parts v ts → Parts v (and1 t ts)

-- a term's letters moved out of the way of another's, both having letters below 16
abbrev pub renamed : Term → Term
renamed t = put (λ x. letter (x + 16)) t
