-- What the contracts of the pivot row cite.
pub mod Pivot
