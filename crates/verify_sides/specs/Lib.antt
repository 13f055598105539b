-- What the contracts cite.
pub mod Verifying
