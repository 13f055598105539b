-- What back substitution does to one row.
pub mod Rows
