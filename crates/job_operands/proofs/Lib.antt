-- Laws of numbers in their bytes.
pub mod Bytes
