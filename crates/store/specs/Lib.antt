-- Shared terms in lent words: the definitions that the contracts cite.
pub mod Numbers
pub mod Cells
pub mod Slots
pub mod Keys
pub mod Chains
pub mod Marks
pub mod Slides
pub mod Roots
pub mod Stacks
pub mod Stores
pub mod Making
pub mod Transfers
