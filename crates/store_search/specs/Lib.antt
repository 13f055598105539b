-- What the contracts cite.
pub mod Behind
pub mod Places
