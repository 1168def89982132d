-- Calls for C: what they answer.
pub mod Calls
