-- Lemmas on cells, slots, chains and stores.
pub mod Sounds
pub mod Cases
pub mod Writing
pub mod Decoding
pub mod Telling
pub mod Chaining
pub mod Marking
pub mod Sliding
pub mod Collecting
pub mod Viewing
pub mod Placing
pub mod Sharing
pub mod Keeping
pub mod Forests
pub mod Reading
pub mod Emitting
