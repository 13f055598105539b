-- Laws of the order of commands.
pub mod Placing
