-- Lemmas of the readable form.
pub mod Heads
