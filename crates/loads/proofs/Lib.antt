-- A call from its parts.
pub mod Calls
