-- Laws of what is printed of a plan and of a run.
pub mod Endings
