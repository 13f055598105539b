-- Laws of reading a job.
pub mod Course
