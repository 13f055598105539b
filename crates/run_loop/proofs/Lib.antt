-- Laws of the run: the reference's course, and how the stores follow it.
pub mod Sizes
pub mod Course
pub mod Stepwise
pub mod Whole
pub mod Ending
