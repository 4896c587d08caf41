-- The laws that belong to no one function.
pub mod Aiming
pub mod Marking
pub mod Celling
pub mod Examples
