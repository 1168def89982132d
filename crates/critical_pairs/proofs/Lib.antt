-- The proofs of the theorems.
-- lists
pub mod Lists
-- the list of overlaps
pub mod Positions
pub mod OverlapList
pub mod Sorted
pub mod Prefix
-- most general replacements, and one end by the list
pub mod Renaming
pub mod Telling
