-- Laws of the tests before a run.
pub mod Judged
pub mod Resized
pub mod Verified
pub mod Tests
