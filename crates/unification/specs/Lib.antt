-- Unification over the store: the definitions that the contracts cite.
pub mod Unifiers
pub mod Classes
pub mod Images
