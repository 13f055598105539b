-- Laws of back substitution.
pub mod Rows
pub mod Solving
