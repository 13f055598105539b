-- Laws of a job's commands.
pub mod Commanding
