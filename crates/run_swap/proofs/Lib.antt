-- Laws of swapping slots.
pub mod Guessing
pub mod Puts
pub mod Columns
pub mod Walks
