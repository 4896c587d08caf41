-- What is promised of the loop of calls with slips of the arm.
pub mod Turning
pub mod Looping
pub mod Today
