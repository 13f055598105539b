-- Laws of the pivot row.
pub mod Magnitudes
pub mod Limit
pub mod Best
pub mod Seeking
pub mod Chosen
