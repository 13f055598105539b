-- What the contracts cite.
pub mod Joining
