-- Laws of a step's column, right side and diagonal.
pub mod Dividing
pub mod Rewriting
pub mod Columns
