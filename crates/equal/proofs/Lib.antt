-- Lemmas on judging and comparing.
pub mod Sides
pub mod Verdict
pub mod Saying
pub mod Telling
pub mod Promised
pub mod Excluding
pub mod Stable
pub mod Deciding
pub mod Serving
pub mod Outgrowing
pub mod Recalling
