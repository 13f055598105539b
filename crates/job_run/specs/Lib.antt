-- What a job's plan and run leave, and what its steps hand on.
pub mod Lending
pub mod Answering
