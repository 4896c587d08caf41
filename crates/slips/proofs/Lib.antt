-- The laws of slips.
pub mod Meant
pub mod One
pub mod Accept
pub mod Unique
pub mod Stepping
pub mod Tables
pub mod Bodies
pub mod Existing
pub mod Examples
pub mod Written
pub mod Plays
