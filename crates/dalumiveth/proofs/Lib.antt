-- From what a call keeps to what is told of it.
pub mod Telling
