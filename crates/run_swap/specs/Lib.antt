-- What the contracts of swapping slots cite.
pub mod Swapping
