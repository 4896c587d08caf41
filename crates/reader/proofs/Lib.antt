-- The laws that belong to no one function, and what a run of calls hands out.
pub mod Handing
pub mod Calls
