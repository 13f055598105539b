-- Answers as numbers, and numbers as what the calls take.
pub mod Numbered
