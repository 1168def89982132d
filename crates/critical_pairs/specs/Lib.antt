-- The overlaps of a list of rules, as a list: the definitions and theorems that the contracts cite.
pub mod OverlapList
pub mod Renaming
pub mod Theorems
