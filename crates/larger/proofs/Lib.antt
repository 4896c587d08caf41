-- The laws of the game with slips of the arm.
pub mod Slipping
pub mod Tallies
pub mod Layers
pub mod Trembled
pub mod Advising
pub mod Marked
