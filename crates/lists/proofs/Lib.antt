-- Laws of the finite sets and of the functions on lists that this crate defines, and small laws of the numbers that lists are reached by.
pub mod Members
pub mod Order
pub mod Kept
pub mod Least
pub mod Overlap
pub mod Places
pub mod Laying
pub mod Once
pub mod Counting
pub mod Small
