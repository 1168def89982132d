-- Books: signs with their parts and ranks, equations, and rules; and what it is for one to settle its equations.
use Rattle.std.specs.Prelude.{◌≡◌, List, ℕ, ◌≤◌, length}
use Rattle.std.proofs.Math.Option.{some}
use Rattle.rewriting.specs.Terms.{nth, Term, size, Ok, Fits}
use Rattle.rewriting.specs.Rules.{Eq, Equal, Steps, Meet}

-- for each sign how many parts it has and its rank; equations; rules
pub record Book : Type 0 where
  pub parts : List ℕ
  pub ranks : List ℕ
  pub eqs : List Eq
  pub rules : List Eq

-- the sides of an equation or rule: terms over the signature, letters below 16, at most 32 letters and signs each
pub record Sides (ps : List ℕ) (e : Eq) : Type 0 where
  pub left : Ok ps e.left
  pub right : Ok ps e.right
  pub left_size : size e.left ≤ 32
  pub right_size : size e.right ≤ 32

abbrev pub AllSides : List ℕ → List Eq → Type 0
AllSides ps es = (i : ℕ) (e : Eq) → nth es i ≡ some e → Sides ps e

-- all different
abbrev pub Differ : List ℕ → Type 0
Differ xs = (i j x : ℕ) → nth xs i ≡ some x → nth xs j ≡ some x → i ≡ j

-- 1 to 32 signs of at most 4 parts, ranks all different, at most 64 equations and 64 rules
pub record Fine (b : Book) : Type 0 where
  pub some_sign : 1 ≤ length b.parts
  pub few_signs : length b.parts ≤ 32
  pub few_parts : (f n : ℕ) → nth b.parts f ≡ some n → n ≤ 4
  pub ranked : length b.ranks ≡ length b.parts
  pub differ : Differ b.ranks
  pub few_eqs : length b.eqs ≤ 64
  pub few_rules : length b.rules ≤ 64
  pub eqs : AllSides b.parts b.eqs
  pub rules : AllSides b.parts b.rules

-- one end (confluence): whatever steps are taken from one term of the book's signs, the two results come together
abbrev pub OneEnd : Book → Type 0
OneEnd b = (t u v : Term) → Fits b.parts t → Steps b.rules t u → Steps b.rules t v → Meet b.rules u v

-- the rules say no more than the equations
abbrev pub NoMore : Book → Type 0
NoMore b = (i : ℕ) (r : Eq) → nth b.rules i ≡ some r → Equal b.eqs r.left r.right

-- and no less: the sides of each equation come together
abbrev pub NoLess : Book → Type 0
NoLess b = (i : ℕ) (e : Eq) → nth b.eqs i ≡ some e → Meet b.rules e.left e.right
