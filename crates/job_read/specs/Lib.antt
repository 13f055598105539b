-- What reading a job leaves.
pub mod Read
pub mod Ending
