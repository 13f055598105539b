-- What the contracts cite.
pub mod Sharing
pub mod Adding
pub mod Sole
