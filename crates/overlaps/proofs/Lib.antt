-- Proofs on overlaps.
pub mod Positions
pub mod Overlapping
pub mod Lettering
pub mod Pairing
pub mod Judging
pub mod Going
pub mod Verdicts
