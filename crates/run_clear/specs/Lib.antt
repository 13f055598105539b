-- What a cleared store holds.
pub mod Blanks
