-- The whole number of a draw in the machine's words, and a place by its two cases.
pub mod Words
pub mod Places
