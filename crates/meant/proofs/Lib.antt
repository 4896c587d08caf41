-- The laws that belong to no one function.
pub mod Meaning
pub mod Aims
