-- What the contracts cite.
pub mod Collecting
