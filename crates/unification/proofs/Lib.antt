-- Proofs on unification.
pub mod Labels
pub mod Parts
pub mod Checking
pub mod Built
pub mod Uniting
pub mod Lettering
