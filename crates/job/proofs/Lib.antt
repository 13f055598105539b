-- Laws of the way from a job's bytes to its answer.
pub mod Filled
pub mod Texts
