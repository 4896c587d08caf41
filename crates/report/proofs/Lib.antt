-- The laws that belong to no one function.
pub mod Telling
pub mod Reading
pub mod Examples
