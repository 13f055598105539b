-- A fraction beside a half, the sizes that the code rounds, and the sign.
pub mod Halves
pub mod Sizes
pub mod Signs
