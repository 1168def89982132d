-- The table of answers.
use Rattle.std.specs.Prelude.{◌≡◌, ℕ, ◌<◌, Bool, ◌⊎◌, [], Some, None, Option as Maybe, slice_index_or, slice_set}
use Rattle.order.specs.declared.table.Table.{Table}

-- the table has a cell for two places
abbrev pub Celled : ℕ → ℕ → Type 0
Celled k j = (k < 64) × (j < 64)

-- the answer in the cell of two places
abbrev pub cell : Table → ℕ → ℕ → Maybe Bool
cell tb k j = slice_index_or (slice_index_or tb.answers k []) j None

-- what is remembered of two places
abbrev pub Recalled : Table → ℕ → ℕ → Maybe Bool → Type 0
Recalled tb k j r = (Celled k j × (r ≡ cell tb k j)) ⊎ ((Celled k j → ⊥) × (r ≡ None))

-- an answer for two places is put in their cell, if they have one
abbrev pub Noted : Table → ℕ → ℕ → Bool → Table → Type 0
Noted tb k j b new =
    (Celled k j × (new.answers ≡ slice_set tb.answers k (slice_set (slice_index_or tb.answers k []) j (Some b))))
    ⊎ ((Celled k j → ⊥) × (new.answers ≡ tb.answers))
