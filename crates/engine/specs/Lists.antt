-- What a contract sees of a list of places.
use Rattle.std.specs.Prelude.{ℕ, List, length}
use Rattle.store.specs.declared.types.Place.{Place}

-- the places, in order, and those of the unused room, of which no clause says anything
pub record Listed : Type 0 where
  pub items : List Place
  pub spare : List Place

-- how many there are
abbrev pub list_len : Listed → ℕ
list_len l = length l.items
