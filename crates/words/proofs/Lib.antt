-- The laws that belong to no one function.
pub mod Goals
pub mod Turning
