-- Term rewriting: the definitions and theorems that the contracts cite.
pub mod Answers
pub mod Terms
pub mod Rules
pub mod Different
pub mod Order
pub mod Overlaps
pub mod Books
pub mod Ways
pub mod Theorems
pub mod Machine
pub mod MachineTheorems
pub mod Sums
