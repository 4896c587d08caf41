-- What the promises of sets are said with.
pub mod Sets
pub mod Lowest
