-- The laws that belong to no one function, and a worked example.
pub mod Aiming
pub mod Examples
