-- Proofs on rows.
pub mod Glueing
pub mod Reading
pub mod Elements
pub mod Scanning
pub mod Heads
pub mod Sided
pub mod Bookish
pub mod Unique
pub mod Siding
pub mod Building
pub mod Differing
pub mod Waying
pub mod Forests
pub mod Indexing
