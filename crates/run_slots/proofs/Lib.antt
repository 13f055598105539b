-- Laws that the inner crates of the elimination share.
pub mod Mapped
pub mod Floats
pub mod Flags
pub mod Shows
pub mod Grid
pub mod Exchange
pub mod Sound
pub mod Lists
pub mod Products
