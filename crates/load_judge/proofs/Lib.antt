-- The lengths of the stores.
pub mod Sizes
