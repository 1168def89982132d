-- Proofs on the calls.
pub mod Through
