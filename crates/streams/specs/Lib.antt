-- Numbers as they are printed.
pub mod Numbers
-- Stores as they are printed.
pub mod Printed
-- Values as they are read.
pub mod Taken
-- How programs end.
pub mod Halts
