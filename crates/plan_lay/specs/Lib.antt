-- What the contracts cite.
pub mod Filled
pub mod Placing
