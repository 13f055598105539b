-- What the contracts of planning's calls, of the runs, of reading and writing offsets and of loading cite besides the foundation.
pub mod Answers
pub mod Stores
pub mod Runs
pub mod RunStores
pub mod Offsets
pub mod Loads
