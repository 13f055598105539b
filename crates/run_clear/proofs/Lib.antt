-- Laws of result stores.
pub mod Stores
