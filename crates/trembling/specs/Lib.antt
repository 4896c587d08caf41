-- What the promises of planning with slips of the arm are said with.
pub mod Sets
pub mod Scan
pub mod Round
pub mod Held
