-- What the contracts cite.
pub mod Ready
pub mod Gathering
pub mod Contains
pub mod Steps
