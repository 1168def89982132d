-- Ways: the definitions that the contracts cite.
pub mod Steps
pub mod Showing
pub mod Walks
