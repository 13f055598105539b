-- Laws of loading.
pub mod Reached
pub mod Lines
pub mod Copied
pub mod Parts
pub mod Whole
