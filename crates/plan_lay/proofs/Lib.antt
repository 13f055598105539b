-- Laws that the proofs of the functions share.
pub mod Filled
pub mod Placing
pub mod Laid
