-- Going through the overlaps: what stays true on the way.
use Rattle.std.proofs.Common.{◌≡◌, ℕ, ◌+◌, ◌<◌, ◌≤◌, Bool, true, Result, length, sym, subst, arith}
use Rattle.rewriting.specs.Terms.{size}
use Rattle.store.proofs.Cases.{below_next}
use Rattle.books.specs.declared.row.Book.{Book}
use Rattle.books.specs.Books.{told, rule_in}
use Rattle.order.specs.declared.terminating.Terminating.{Terminating}
use Rattle.engine.specs.declared.reducer.Reducer.{Reducer}
use Rattle.engine.specs.declared.types.NoRoom.{NoRoom}
use Rattle.engine.specs.Reducers.{LeftIdle}
use Rattle.overlaps.specs.Verdict.{Joined, OverlapSays}

-- which of the overlaps are joined: all of the rules before the first one; of that one, all with the rules before the second; and with
-- that one, all before the symbol
pub record JoinedTo (b : Book) (i j k : ℕ) : Type 0 where
  pub before : (x y z : ℕ) → x < i → y < length (told b).rules → z < size (rule_in b x).left → Joined b x y z
  pub row : (y z : ℕ) → y < j → z < size (rule_in b i).left → Joined b i y z
  pub here : (z : ℕ) → z < k → Joined b i j z

pub joined_more : (b : Book) (i j k : ℕ) → JoinedTo b i j k → Joined b i j k → JoinedTo b i j (k + 1)
joined_more b i j k t h = record { before = t.before; row = t.row; here = below_next (λ z. Joined b i j z) k t.here h }

pub joined_symbols : (b : Book) (i j k : ℕ) → size (rule_in b i).left ≤ k → JoinedTo b i j k → JoinedTo b i (j + 1) 0
joined_symbols b i j k l t = record {
  before = t.before;
  row = λ y z m h. below_next (λ x. (z : ℕ) → z < size (rule_in b i).left → Joined b i x z) j
      (λ x n z g. t.row x z n g) (λ z g. t.here z (omega arith)) y m z h;
  here = λ z l. absurd (omega arith);
}

pub joined_rules : (b : Book) (i j k : ℕ) → length (told b).rules ≤ j → JoinedTo b i j k → JoinedTo b (i + 1) 0 0
joined_rules b i j k l t = record {
  before = λ x y z m h g. below_next (λ u. (y z : ℕ) → y < length (told b).rules → z < size (rule_in b u).left → Joined b u y z) i
      (λ u n y z h g. t.before u y z n h g) (λ y z h g. t.row y z (omega arith) g) x m y z h g;
  row = λ y z l. absurd (omega arith);
  here = λ z l. absurd (omega arith);
}

pub record Going (b : Book) (r : Reducer) (i j k : ℕ) (s : Reducer) (found : Bool) : Type 0 where
  pub idle : LeftIdle r s
  pub joined : JoinedTo b i j k
  pub none : found ≡ true

-- the rules are the same after some work
module _ {r s : Reducer} (d : LeftIdle r s) where
  pub rule_still : (i : ℕ) → i < length (told r.rules.now.book).rules → i < length (told s.rules.now.book).rules
  rule_still i l = subst (λ (t : Terminating). i < length (told t.book).rules) (sym d.lent.rules) l

  pub symbol_still : (i k : ℕ) → k < size (rule_in r.rules.now.book i).left → k < size (rule_in s.rules.now.book i).left
  symbol_still i k l = subst (λ (t : Terminating). k < size (rule_in t.book i).left) (sym d.lent.rules) l

  pub says_still : (n i j k : ℕ) (x : Result Bool NoRoom) → OverlapSays s.rules.now.book n i j k x →
      OverlapSays r.rules.now.book n i j k x
  says_still n i j k x h = subst (λ (t : Terminating). OverlapSays t.book n i j k x) d.lent.rules h
