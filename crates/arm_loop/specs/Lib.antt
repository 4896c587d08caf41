-- What the loop of calls with slips of the arm is.
pub mod Loop
