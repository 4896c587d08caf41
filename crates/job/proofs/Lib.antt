-- The laws that belong to no one function.
pub mod Joining
pub mod Named
pub mod Laying
pub mod Readings
pub mod Asking
pub mod Offsets
pub mod Finding
