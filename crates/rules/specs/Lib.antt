-- The meaning: what the promises of every crate are said with.
pub mod Job
pub mod Fault
pub mod Form
pub mod Bytes
pub mod Keeps
pub mod BadRecord
pub mod Retold
pub mod Answers
pub mod Plan
pub mod Calls
pub mod Trace
pub mod Formula
pub mod Sat
pub mod Examples
