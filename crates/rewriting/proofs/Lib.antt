-- Proofs of the theorems.
-- terms, replacing and steps
pub mod Choosing
pub mod Replacing
pub mod Letters
pub mod Glueing
pub mod Signature
pub mod Cleaning
pub mod Comparing
pub mod Matching
pub mod Stepping
-- the order, termination and heights
pub mod Ordering
pub mod Grounding
pub mod Terminating
pub mod Reducts
pub mod Reaching
pub mod Height
-- unification and one end
pub mod Unifying
pub mod Splitting
pub mod Newman
pub mod Peaks
pub mod Pairs
-- the main theorem, and the example
pub mod Settling
pub mod Sums
-- what programs use
pub mod Bindings
pub mod Waying
pub mod Verdicts
-- the number of different parts
pub mod Members
pub mod Different
-- the machine
pub mod Framing
pub mod Moving
pub mod Costing
pub mod Depth
pub mod Asking
