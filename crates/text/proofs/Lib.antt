-- The laws that belong to no one function.
pub mod Putting
pub mod Repeating
pub mod Lengths
pub mod Digits
pub mod Examples
