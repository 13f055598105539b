-- Laws that the proofs of the functions share.
pub mod Judging
pub mod Faults
pub mod Sizing
