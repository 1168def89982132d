-- Which rules go down: the definitions that the contracts cite.
pub mod Tables
pub mod Comparing
pub mod Downward
pub mod Terminating
