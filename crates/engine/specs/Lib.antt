-- Rewriting over the store: the definitions that the contracts cite.
pub mod Lists
pub mod Matching
pub mod Building
pub mod Rewriting
pub mod Frames
pub mod Running
pub mod Turning
pub mod Spacing
pub mod Normal
pub mod Meeting
pub mod Working
pub mod Pairs
pub mod Reducers
