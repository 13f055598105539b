-- Names that open whole groups of definitions at once, for proofs by computation, as `unfolding plans`. Each group is a module of its own, so that a change of
-- one part is not felt by the tables of another.
pub mod Lists
pub mod Plans
pub mod Numbers
pub mod Squares
pub mod References
pub mod Runs
pub mod Jobs
pub mod Prints
pub mod Tallies
pub mod Offsets
pub mod Loads
