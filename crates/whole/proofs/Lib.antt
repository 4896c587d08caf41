-- The laws that belong to no one function, and worked examples.
pub mod Judging
pub mod Examples
