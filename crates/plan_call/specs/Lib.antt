-- What the contracts cite.
pub mod Outcome
