-- Tokens, places and faults of a text: what the contracts cite.
pub mod Tokens
pub mod Places
pub mod Faults
pub mod Cursors
