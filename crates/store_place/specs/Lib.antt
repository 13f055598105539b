-- Where the lists of a side lie.
pub mod Places
