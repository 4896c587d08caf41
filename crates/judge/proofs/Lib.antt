-- The laws that belong to no one function.
pub mod Scanning
pub mod Kept
pub mod Telling
pub mod Examples
