-- Stores that are cleared.
pub mod Clearing
