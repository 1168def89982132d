-- Lemmas of the words of the answers.
pub mod Words
