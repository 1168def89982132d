-- Proofs on ways.
pub mod Onestep
pub mod Topping
pub mod Parting
pub mod Stepping
pub mod Remaining
pub mod Rooms
pub mod Following
