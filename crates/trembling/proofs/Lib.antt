-- The laws of planning with slips of the arm.
pub mod Others
pub mod Rounding
pub mod Holding
pub mod Settling
pub mod Planning
pub mod Answering
