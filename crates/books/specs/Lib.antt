-- Books, terms and ways as rows of words: what a row says, and how it is read.
pub mod Rows
pub mod Reading
pub mod Indexing
pub mod Layouts
pub mod Facts
pub mod Books
pub mod Theorems
