-- Whole numbers in the machine's words, and the answers of the calls.
pub mod Words
pub mod Answers
