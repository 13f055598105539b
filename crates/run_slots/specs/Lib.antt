-- What the inner crates of the elimination share: how its stores show a square, and how its index stores are the plan's.
pub mod Flags
pub mod Index
pub mod Lists
pub mod Shows
pub mod Handing
pub mod Products
