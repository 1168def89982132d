-- Judging books and comparing terms: the definitions that the contracts cite.
pub mod Promises
pub mod Serving
pub mod Judging
pub mod Sessions
pub mod SessionRows
