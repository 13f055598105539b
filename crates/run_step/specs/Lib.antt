-- One step of the elimination: its pivot row brought to row k, and the elimination.
pub mod Bringing
pub mod Eliminating
