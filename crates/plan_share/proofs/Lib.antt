-- Laws that the proofs of the functions share.
pub mod Sharing
pub mod Sole
pub mod Comparing
pub mod Adding
