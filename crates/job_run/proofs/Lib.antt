-- Laws of a job's plan and run, and of what is reported of them.
pub mod Fronts
pub mod Fitting
pub mod Running
pub mod Arrays
pub mod Planned
pub mod Ending
pub mod Reports
