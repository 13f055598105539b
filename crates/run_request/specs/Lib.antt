-- What a caller asks of a run besides its numbers.
pub mod Asking
