-- The laws of what two engines share, which belong to no one function.
pub mod Passes
pub mod Agree
pub mod Steps
pub mod Holding
pub mod Settling
pub mod Planning
