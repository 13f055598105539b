-- Laws of stretches and of work stores.
pub mod UpTo
pub mod Within
pub mod Reducing
pub mod Crossings
pub mod Laying
