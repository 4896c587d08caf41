-- What the program that judges a recorded run prints.
pub mod Lines
pub mod Tells
