-- What the calls of the elimination promise.
pub mod Calls
