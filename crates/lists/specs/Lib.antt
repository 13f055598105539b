-- Finite sets of numbers as strictly ascending lists, and the few functions on lists that the definitions above this crate share.
pub mod Sets
pub mod Functions
