-- Laws of a side's part of a step.
pub mod Heads
pub mod Sides
pub mod Steps
