-- The readable form of books: what the contracts cite.
pub mod Names
pub mod Rows
pub mod Books
