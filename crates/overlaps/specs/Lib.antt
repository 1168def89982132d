-- Overlaps of rules and what they tell: the definitions that the contracts cite.
pub mod Positions
pub mod Pairs
pub mod Verdict
