-- The laws that belong to no one function.
pub mod Wording
pub mod Tabling
pub mod Adding
pub mod Saying
