-- What is to be reported of a run.
pub mod Reported
