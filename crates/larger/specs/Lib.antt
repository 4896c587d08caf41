-- What the game with slips of the arm is, its plan in bytes, and what the calls answer.
pub mod Larger
pub mod Plans
pub mod Calls
