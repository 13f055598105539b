-- What is taken off a stretch, and what a work store holds.
pub mod Stretches
pub mod Crossing
pub mod Work
