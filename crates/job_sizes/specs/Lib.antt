-- The sizes that contracts cite besides the foundation's.
pub mod Sizes
