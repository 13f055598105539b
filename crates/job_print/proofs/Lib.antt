-- Laws of texts written into a store.
pub mod Appending
pub mod Decimals
pub mod Hexadecimals
pub mod Bits
pub mod Lining
pub mod Reporting
