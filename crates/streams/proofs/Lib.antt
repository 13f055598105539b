-- Reading in pieces.
pub mod Reading
-- One more value read.
pub mod Filling
