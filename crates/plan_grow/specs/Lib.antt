-- What the contracts cite.
pub mod Growing
