-- What the code rounds, and what it answers.
pub mod Sizes
