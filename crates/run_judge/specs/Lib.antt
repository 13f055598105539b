-- What the tests before a run say, and the numbers that they go by.
pub mod Judgement
pub mod Sizes
