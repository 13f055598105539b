-- What the contracts cite.
pub mod Clearing
pub mod Merging
pub mod Chains
