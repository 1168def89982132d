-- Proofs on which rules go down.
pub mod Telling
pub mod Standing
pub mod Comparing
pub mod Deciding
pub mod Tables
pub mod Rules
pub mod Descent
