-- What the rows of a load leave in the stores.
pub mod Laid
