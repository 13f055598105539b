-- What the functions that print leave in the store.
pub mod Appended
pub mod Page
pub mod Lines
