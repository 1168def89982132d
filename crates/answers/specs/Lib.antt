-- The words of the answers.
pub mod Words
