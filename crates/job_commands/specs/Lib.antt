-- The stores of a job, how far reading has come, and what a job's bytes are refused for.
pub mod Stores
pub mod Progress
pub mod Refusal
