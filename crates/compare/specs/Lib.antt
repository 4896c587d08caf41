-- What the program that checks a plan prints.
pub mod Tells
