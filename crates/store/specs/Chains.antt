-- Chains: each slot links to the one before it in its bucket, and each bucket to its last slot. Links are slot numbers plus 1.
use Rattle.std.specs.Prelude.{◌≡◌, ℕ, zero, suc, ◌+◌, ◌-◌, ◌*◌, ◌/◌, ◌%◌, ◌<◌, ◌≤◌, List, Some, None, Option, ◌≢◌, bit_and, slice_index}
use Rattle.store.specs.declared.keys.Key.{Key}
use Rattle.store.specs.Cells.{cell, HasSlot}
use Rattle.store.specs.Slots.{kind_of, flag_of, arity_of, kind_at, part_at, link_at, last_at, note_at, term_of, Shared}
use Rattle.store.specs.Keys.{key_term}

-- a hash h with a number added, and the sum multiplied by 2^64 over the golden ratio
unfoldable pub mix_of : ℕ → ℕ → ℕ
mix_of h x = (h + x) % 18446744073709551616 * 11400714819323198485 % 18446744073709551616

-- the hash h with the numbers p 0, .., p (n - 1)
abbrev pub hash_of : ℕ → (ℕ → ℕ) → ℕ → ℕ
hash_of h p zero = h
hash_of h p (suc n) = mix_of (hash_of h p n) (p n)

-- the bucket of a kind k with n parts: the first part and the upper bits of the hash of all else, below the mask
abbrev pub bucket_by : ℕ → ℕ → (ℕ → ℕ) → ℕ → ℕ
bucket_by mask k p zero = bit_and (mix_of k 0 / 4294967296) mask
bucket_by mask k p (suc n) = bit_and ((p 0 + hash_of (mix_of k 0) (λ i. p (suc i)) n / 4294967296) % 18446744073709551616) mask

unfoldable pub bucket_of : ℕ → ℕ → (ℕ → ℕ) → ℕ
bucket_of mask k p = bucket_by mask k p (arity_of k)

abbrev pub bucket_at : ℕ → List ℕ → ℕ → ℕ
bucket_at mask ws i = bucket_of mask (kind_at ws i) (λ k. part_at ws i k)

abbrev pub key_bucket : ℕ → Key → ℕ
key_bucket mask key = bucket_of mask (kind_of key.head) (λ k. slice_index key.parts k)

-- f - 1 is the last slot below n in bucket b, and f is 0 if there is none
pub record Last (mask : ℕ) (ws : List ℕ) (b n f : ℕ) : Type 0 where
  pub low : f ≤ n
  pub all : (j : ℕ) → j < n → bucket_at mask ws j ≡ b → j < f
  pub mem : 0 < f → bucket_at mask ws (f - 1) ≡ b

-- the chains of the first c slots
pub record Chains (mask : ℕ) (ws : List ℕ) (c : ℕ) : Type 0 where
  pub fits : HasSlot ws mask
  pub lasts : (b : ℕ) → b ≤ mask → Last mask ws b c (last_at ws b)
  pub links : (i : ℕ) → i < c → Last mask ws (bucket_at mask ws i) i (link_at ws i)

-- slot i is what the key says
pub record Holds (ws : List ℕ) (i : ℕ) (key : Key) : Type 0 where
  pub kind : kind_at ws i ≡ kind_of key.head
  pub parts : (k : ℕ) → k < arity_of (kind_of key.head) → part_at ws i k ≡ slice_index key.parts k

-- the slot that is, or that none is
abbrev pub Found : List ℕ → ℕ → Key → Option ℕ → Type 0
Found ws c key (Some i) = (i < c) × Holds ws i key
Found ws c key None = (i : ℕ) → i < c → Holds ws i key → ⊥

-- none of the slots from f on is, and f - 1 is in the key's bucket
pub record Searched (mask : ℕ) (ws : List ℕ) (c : ℕ) (key : Key) (f : ℕ) : Type 0 where
  pub low : f ≤ c
  pub not : (j : ℕ) → f ≤ j → j < c → Holds ws j key → ⊥
  pub mem : 0 < f → bucket_at mask ws (f - 1) ≡ key_bucket mask key

-- a key is written into slot n, which is the last of its bucket now
pub record Pushed (mask : ℕ) (vs : List ℕ) (n : ℕ) (key : Key) (ws : List ℕ) : Type 0 where
  pub low : key_bucket mask key ≤ mask
  pub nodes : (j k : ℕ) → k < 6 → (j ≢ n) → cell ws j k ≡ cell vs j k
  pub head : cell ws n 0 ≡ key.head
  pub parts : (k : ℕ) → k < 4 → part_at ws n k ≡ slice_index key.parts k
  pub link : link_at ws n ≡ last_at vs (key_bucket mask key)
  pub last : last_at ws (key_bucket mask key) ≡ n + 1
  pub lasts : (b : ℕ) → (b ≢ key_bucket mask key) → last_at ws b ≡ last_at vs b
  pub notes : (j : ℕ) → note_at ws j ≡ note_at vs j

-- the key is slot c, with no note, after the first c slots as they were
pub record OneMore (mask : ℕ) (vs : List ℕ) (c : ℕ) (key : Key) (xs : List ℕ) : Type 0 where
  pub shared : Shared xs (c + 1)
  pub chains : Chains mask xs (c + 1)
  pub term : term_of xs c ≡ key_term vs key
  pub terms : (i : ℕ) → i < c → term_of xs i ≡ term_of vs i
  pub flags : (i : ℕ) → i < c → flag_of (cell xs i 0) ≡ flag_of (cell vs i 0)
  pub notes : (i : ℕ) → i < c → note_at xs i ≡ note_at vs i
  pub new_flags : (i : ℕ) → c ≤ i → i < c + 1 → flag_of (cell xs i 0) ≡ flag_of key.head
  pub new_notes : (i : ℕ) → c ≤ i → i < c + 1 → note_at xs i ≡ 0
