-- Laws of lists in a store of any length, of refusals, and of counts.
pub mod CutOrPadded
pub mod Refused
pub mod CountsBack
pub mod Signed
