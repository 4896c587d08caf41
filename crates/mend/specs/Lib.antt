-- What the program that salvages a job prints.
pub mod Mends
