-- A side's part of a step: what is taken off the numbers of its lists.
pub mod Heads
pub mod Side
