-- Laws that the proofs of the functions share.
pub mod Passing
pub mod Chaining
pub mod Contains
pub mod Joining
pub mod Gathering
pub mod Turning
pub mod Progress
