-- What the code's tests say of a text.
pub mod Places
