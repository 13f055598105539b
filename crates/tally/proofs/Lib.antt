-- Laws of one counter of the record.
pub mod OneCounter
