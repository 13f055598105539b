-- What loading takes for granted and leaves, row by row.
pub mod Rows
